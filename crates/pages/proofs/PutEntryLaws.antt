-- The entry of a line: a key's piece, and a row's or a lock.
-- Assumes nothing.
use Prim.Native.Nat.{ℕ, ◌+◌, ◌≤◌}
use native.Mathlib.Omega.{arith}
use mathlib.Core.Path.{◌≡◌, sym, ap, ◌∙◌, subst}
use mathlib.Core.List.{◌++◌}
use lib.ListN.{length, length-append}
use Rattle.forms.specs.Bytes.{Bytes, piece_bytes}
use Rattle.forms.specs.Writers.{Laid}
use Rattle.forms.proofs.WriterLaws.{bytes-long, laid_as, laid_then}
use Rattle.rules.proofs.EntryWriterLaws.{lock-long}
use Rattle.store.specs.declared.table.Line.{Line}
use Rattle.store.specs.declared.table.Line.TheVariants.{Standing, Finished}
use Rattle.store.specs.declared.table.Slot.{Slot}
use Rattle.store.specs.declared.views.LineView.{LineView}
use Rattle.store.specs.declared.views.LineView.TheVariants as view
use Rattle.store.specs.View.{place_of, key_of, past}
use Rattle.store.specs.Views.{lock_view, lock_in, view_in, view_of}
use Rattle.walks.specs.Walked.{line_bytes, entry_bytes, part_len}
use Rattle.store.specs.Stretches.{StretchAsks}
use Rattle.pages.specs.Asks.{EntryAsks}

-- ---- a key, and its row or lock

-- what the writer of a row or a lock asks
abbrev ToldAsks : Bytes → ℕ → Bytes → LineView → Type 0
ToldAsks area at out (view.Standing i) = StretchAsks area i.at i.len 26 at out
ToldAsks area at out (view.Finished w) = StretchAsks area w.rowat w.rowlen 1 at out

module _ {area : Bytes} {s : Slot} {at : ℕ} {out : Bytes} (q : EntryAsks area s at out) where
  entry-long : length (entry_bytes area s) ≡ s.len + 1 + length (line_bytes area (view_of area s))
  entry-long = length-append (piece_bytes (key_of area s)) (line_bytes area (view_of area s)) ∙ omega (arith, bytes-long area (place_of s) s.len (omega (arith, q.line.within)))

  pub key-asks : s.len ≤ 255 → StretchAsks area (place_of s) s.len 1 at out
  key-asks h = record { within = omega (arith, q.line.within); short = h; room = omega (arith, q.room, entry-long) }

  module _ {a : ℕ} {t : Bytes} (k : Laid at (s.len + 1) (piece_bytes (key_of area s)) out a t) where
    line-asks : ToldAsks area a t (view_of area s)
    line-asks = go s.line q.line.within q.line.short (omega (arith, q.room, entry-long))
      where
        go : (x : Line) → place_of s + s.len + past x ≤ length area → part_len x ≤ 255 → a + length (line_bytes area (view_in area (place_of s + s.len) x)) ≤ length t → ToldAsks area a t (view_in area (place_of s + s.len) x)
        go (Standing l) f g h = record { within = omega arith; short = g; room = omega (arith, lock-long (lock_in area (lock_view area (place_of s + s.len) l)), bytes-long area (place_of s + s.len + 8 + 8 + l.rowlen + 8) l.plen (omega arith)) }
        go (Finished w) f g h = record { within = omega arith; short = g; room = omega (arith, bytes-long area (place_of s + s.len + 8 + 8) w.rowlen (omega arith)) }

    module _ {line : LineView} (e : line ≡ view_of area s) where
      pub told-asks : {x : LineView} → line ≡ x → ToldAsks area a t x
      told-asks f = subst (ToldAsks area a t) (sym e ∙ f) line-asks

      pub entry-laid : {x : LineView} {n r : ℕ} {u : Bytes} → line ≡ x → Laid a n (line_bytes area x) t r u → Laid at (length (entry_bytes area s)) (entry_bytes area s) out r u
      entry-laid {x} f v = laid_as (laid_then k v) (ap (λ (y : LineView). piece_bytes (key_of area s) ++ line_bytes area y) (sym f ∙ e))
