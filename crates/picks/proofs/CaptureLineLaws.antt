-- Which lines an image takes, by what the code tests; and how long the pieces of a slot are.
-- Assumes nothing.
use Prim.Native.Nat.{ℕ, ◌+◌, ◌≤◌}
use native.Mathlib.Omega.{arith}
use mathlib.Core.Path.{◌≡◌, refl, sym, ap, ◌∙◌}
use mathlib.Core.Bool.{Bool, true, false, ◌&&◌, not}
use lib.Dec.{leb, eqb}
use lib.ListN.{length, take, drop}
use borrow.Author.Tests.{leb-true}
use Rattle.seqs.proofs.Tables.{part_in}
use Rattle.forms.specs.Bytes.{Bytes}
use Rattle.forms.specs.Key.{key_form, table_of}
use Rattle.forms.specs.Numbers.{number, only_if}
use Rattle.forms.specs.Places.{NumberAt}
use Rattle.std.specs.Prelude.{None, Some}
use Rattle.std.specs.Prelude.{Option as Maybe}
use Rattle.std.specs.Option.{option_eq}
use Rattle.forms.proofs.NumberLaws.{number-value, number_short}
use Rattle.rules.specs.Box.{start_of}
use Rattle.rules.specs.Restore.{of_table}
use Rattle.laws.proofs.StepLaws.{passed, and_left}
use Rattle.store.specs.declared.table.Line.{Line}
use Rattle.store.specs.declared.table.Line.TheVariants.{Standing, Finished}
use Rattle.store.specs.declared.table.Slot.{Slot}
use Rattle.store.specs.View.{eight_at, place_of, row_len, line_in, key_of, line_of, row_in}
use Rattle.forms.proofs.WriterLaws.{bytes-long}
use Rattle.store.proofs.ViewLaws.{past-numbers, past_row}
use Rattle.picks.specs.Lines.{ShortLine, SlotIn}

pub form-long : (k : Bytes) → key_form k ≡ true → (5 ≤ length k) × (length k ≤ 48)
unfolding key_form
form-long k h =
    let v : leb 5 (length k) && leb (length k) 48 ≡ true = and_left (leb 5 (length k) && leb (length k) 48) (not (eqb (table_of k) 0)) h in
    (leb-true 5 (length k) (search passed), leb-true (length k) 48 (search passed))

short_row : (x : Line) → ShortLine x → row_len x ≤ 255
short_row (Standing l) h = h.1
short_row (Finished w) h = h

line-start : (area : Bytes) (at : ℕ) (x : Line) → start_of (line_in area at x) ≡ eight_at area (at + 8)
line-start area at (Standing l) = refl
line-start area at (Finished w) = refl

module _ {area : Bytes} {s : Slot} (q : SlotIn area s) where
  pub key_in : place_of s + s.len ≤ length area
  key_in = omega (arith, q.within)

  pub key-long : length (key_of area s) ≡ s.len
  key-long = bytes-long area (place_of s) s.len key_in

  pub key-some : (5 ≤ s.len) × (s.len ≤ 48)
  key-some = let f = form-long (key_of area s) q.form in (omega (arith, key-long, f.0), omega (arith, key-long, f.1))

  pub row-in : place_of s + s.len + 8 + 8 + row_len s.line ≤ length area
  row-in = omega (arith, q.within, past_row s.line)

  pub row-long : length (row_in area s) ≡ row_len s.line
  row-long = bytes-long area (place_of s + s.len + 8 + 8) (row_len s.line) row-in

  pub row_short : row_len s.line ≤ 255
  row_short = short_row s.line q.short

  pub start-in : place_of s + s.len + 8 + 8 ≤ length area
  start-in = omega (arith, q.within, past-numbers s.line)

  pub start_is : start_of (line_of area s).line ≡ eight_at area (place_of s + s.len + 8)
  start_is = line-start area (place_of s + s.len) s.line

  -- "key of this table"
  pub table_is : (t : ℕ) {p : ℕ} (o : Maybe ℕ) → p ≡ place_of s → NumberAt 4 area p o → option_eq eqb o (Some t) ≡ of_table t (key_of area s)
  unfolding table_of
  table_is t {p} None e v = let h = number_short 4 area p v in absurd (omega (arith, key_in, key-some.0))
  table_is t {p} (Some n) e v =
      let f : n ≡ number (take 4 (key_of area s)) = number-value v ∙ ap (λ (k : ℕ). number (take 4 (drop k area))) e ∙ ap number (sym (part_in (drop (place_of s) area) 0 4 s.len (omega (arith, key-some.0)))) in
      rw (q.form, f)

-- ---- what counts only where a test holds

pub if-few : {r : ℕ} (n : ℕ) (b : Bool) → r ≡ only_if b n → r ≤ n
if-few n true e = omega arith
if-few n false e = omega arith
