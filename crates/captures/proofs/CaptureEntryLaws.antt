-- The entries of an image: what their writers leave. Assumes nothing.
use Prim.Native.Nat.{ℕ, ◌+◌, ◌-◌, ◌≤◌}
use native.Mathlib.Omega.{arith}
use mathlib.Core.Path.{◌≡◌, refl, sym, ap, ap₂, ◌∙◌, subst}
use mathlib.Core.List.{◌++◌}
use lib.ListN.{length, take, drop}
use Rattle.forms.specs.Bytes.{Bytes, bytes_at, piece_bytes}
use Rattle.forms.specs.Writers.{Laid, PieceAsks}
use Rattle.forms.proofs.WriterLaws.{laid_as, laid_then, bytes-long}
use Rattle.rules.specs.Box.{start_of}
use Rattle.rules.specs.Written.{lock_bytes}
use Rattle.rules.specs.Capture.{default_bytes, record_bytes}
use Rattle.rules.proofs.EntryWriterLaws.{lock-long, record-long}
use Rattle.store.specs.declared.table.Line.{Line}
use Rattle.store.specs.declared.table.Line.TheVariants.{Standing, Finished}
use Rattle.store.specs.declared.table.Slot.{Slot}
use Rattle.store.specs.declared.views.LineView.{LineView}
use Rattle.store.specs.declared.views.LineView.TheVariants as view
use Rattle.store.specs.View.{eight_at, place_of, row_len, line_in, past, key_of, line_of, row_in}
use Rattle.store.specs.Views.{view_in, view_of, lock_in, record_in}
use Rattle.store.specs.Stretches.{StretchAsks}
use Rattle.store.proofs.StretchLaws.{stretch, stretch-long, stretch-laid}
use Rattle.picks.specs.Lines.{line_bytes, entry_bytes, row_at, ShortLine}
use Rattle.captures.specs.Asks.{EntryAsks}
use Rattle.picks.proofs.CaptureLineLaws.{key_in, key-some, row-in, row_short, start_is}
use Rattle.picks.proofs.EntrySizeLaws.{default-long, entry-long}

-- ---- a stretch of the area, as the code cuts it out

pub key-laid : (area : Bytes) (x : Slot) → place_of x + x.len ≤ length area → {p : ℕ} → p ≡ place_of x → {at r : ℕ} {s t : Bytes}
    → Laid at (length (take (p + x.len - p) (drop p area)) + 1) (piece_bytes (take (p + x.len - p) (drop p area))) s r t → Laid at (x.len + 1) (piece_bytes (key_of area x)) s r t
key-laid area x h {p} e {at} {r} {s} {t} v =
    subst (λ (k : ℕ). Laid at (x.len + 1) (piece_bytes (bytes_at area k x.len)) s r t) e (stretch-laid area p x.len (omega arith) piece_bytes 1 v)

-- ---- a key, and its lock or record

abbrev told_bytes : Bytes → LineView → Bytes
told_bytes area (view.Standing i) = lock_bytes (lock_in area i)
told_bytes area (view.Finished w) = record_bytes (record_in w)

told-bytes : (area : Bytes) (at : ℕ) (x : Line) → told_bytes area (view_in area at x) ≡ line_bytes (line_in area at x)
told-bytes area at (Standing l) = refl
told-bytes area at (Finished w) = refl

-- what the writer of a lock or a record asks
abbrev ToldAsks : Bytes → ℕ → Bytes → LineView → Type 0
ToldAsks area at out (view.Standing i) = StretchAsks area i.at i.len 26 at out
ToldAsks area at out (view.Finished w) = at + 25 ≤ length out

module _ {area : Bytes} {s : Slot} {at : ℕ} {out : Bytes} (q : EntryAsks area s (entry_bytes (line_of area s)) at out) where
  pub line-key : at + (s.len + 1) ≤ length out
  line-key = omega (arith, q.room, entry-long q.slot)

  module _ {a : ℕ} {t : Bytes} (k : Laid at (s.len + 1) (piece_bytes (key_of area s)) out a t) where
    line-asks : ToldAsks area a t (view_of area s)
    line-asks = go s.line q.slot.within q.slot.short (omega (arith, q.room, entry-long q.slot, k.next, k.length_is))
      where
        go : (x : Line) → place_of s + s.len + past x ≤ length area → ShortLine x → a + length (line_bytes (line_in area (place_of s + s.len) x)) ≤ length t → ToldAsks area a t (view_in area (place_of s + s.len) x)
        go (Standing l) f g h =
            let p = place_of s + s.len in
            record {
              within = omega arith;
              short = g.0;
              room = omega (arith, lock-long (record { txn = eight_at area p; primary = bytes_at area (p + 8 + 8 + l.rowlen + 8) l.plen; start = eight_at area (p + 8); ttl = eight_at area (p + 8 + 8 + l.rowlen); kind = l.kind }), bytes-long area (p + 8 + 8 + l.rowlen + 8) l.plen (omega arith));
            }
        go (Finished w) f g h = let p = place_of s + s.len in omega (arith, record-long (record { stamp = eight_at area p; start = eight_at area (p + 8); commit = eight_at area p; kind = w.kind }))

    module _ {line : LineView} (e : line ≡ view_of area s) where
      pub told-asks : {x : LineView} → line ≡ x → ToldAsks area a t x
      told-asks f = subst (ToldAsks area a t) (sym e ∙ f) line-asks

      pub line-laid : {x : LineView} {n r : ℕ} {u : Bytes} → line ≡ x → Laid a n (told_bytes area x) t r u → Laid at (length (entry_bytes (line_of area s))) (entry_bytes (line_of area s)) out r u
      unfolding entry_bytes
      line-laid {x} f v = laid_as (laid_then k v) (ap (λ (b : Bytes). piece_bytes (key_of area s) ++ b) (ap (told_bytes area) (sym f ∙ e) ∙ told-bytes area (place_of s + s.len) s.line))

-- ---- a default

module _ {area : Bytes} {s : Slot} {at : ℕ} {out : Bytes} (q : EntryAsks area s (default_bytes (row_at area s)) at out) {k len : ℕ} (e : k ≡ place_of s) (f : len ≡ row_len s.line) where
  pub default-asks : PieceAsks (take (k + s.len - k) (drop k area)) (length (take (k + s.len - k) (drop k area)) + length (take (k + s.len + 16 + len - (k + s.len + 16)) (drop (k + s.len + 16) area)) + 10) at out
      × (length (take (k + s.len + 16 + len - (k + s.len + 16)) (drop (k + s.len + 16) area)) ≤ 255)
  default-asks =
      let key = stretch-long area k s.len (omega (arith, key_in q.slot)) in
      let row = stretch-long area (k + s.len + 16) len (omega (arith, row-in q.slot)) in
      (record { short = omega (arith, key, (key-some q.slot).1); room = omega (arith, key, row, q.room, default-long q.slot) }, omega (arith, row, row_short q.slot))

  pub default-laid : {start n r : ℕ} {v : Bytes} → start ≡ eight_at area (k + s.len + 8)
      → Laid at n (default_bytes (record { key = take (k + s.len - k) (drop k area); start = start; row = take (k + s.len + 16 + len - (k + s.len + 16)) (drop (k + s.len + 16) area) })) out r v
      → Laid at (length (default_bytes (row_at area s))) (default_bytes (row_at area s)) out r v
  default-laid {start} g v =
      let i : k + s.len + 16 ≡ place_of s + s.len + 8 + 8 = omega arith in
      let key : take (k + s.len - k) (drop k area) ≡ key_of area s = stretch area k s.len ∙ ap (λ (n : ℕ). bytes_at area n s.len) e in
      let row : take (k + s.len + 16 + len - (k + s.len + 16)) (drop (k + s.len + 16) area) ≡ row_in area s = stretch area (k + s.len + 16) len ∙ ap₂ (λ (n m : ℕ). bytes_at area n m) i f in
      let at-start : start ≡ start_of (line_of area s).line = g ∙ ap (λ (n : ℕ). eight_at area (n + s.len + 8)) e ∙ sym (start_is q.slot) in
      laid_as v
      (ap₂ (λ (b c : Bytes). default_bytes (record { key = b; start = start; row = c })) key row
      ∙ ap (λ (n : ℕ). default_bytes (record { key = key_of area s; start = n; row = row_in area s })) at-start)
