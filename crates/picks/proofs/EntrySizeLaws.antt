-- The entries of an image: how long they are. Assumes nothing.
use Prim.Native.Nat.{◌+◌, ◌≤◌}
use native.Mathlib.Omega.{arith}
use mathlib.Core.Path.{◌≡◌, refl, ap, ◌∙◌, subst}
use lib.ListN.{length, length-append}
use Rattle.forms.specs.Bytes.{Bytes, bytes_at, piece_bytes}
use Rattle.forms.proofs.WriterLaws.{bytes-long}
use Rattle.rules.specs.Capture.{default_bytes}
use Rattle.rules.proofs.EntryWriterLaws as writers
use Rattle.rules.proofs.EntryWriterLaws.{lock-long, record-long}
use Rattle.store.specs.declared.table.Line.{Line}
use Rattle.store.specs.declared.table.Line.TheVariants.{Standing, Finished}
use Rattle.store.specs.declared.table.LockSlot.{LockSlot}
use Rattle.store.specs.declared.table.RecordSlot.{RecordSlot}
use Rattle.store.specs.declared.table.Slot.{Slot}
use Rattle.store.specs.View.{eight_at, place_of, row_len, line_in, past, key_of, line_of}
use Rattle.picks.specs.Lines.{line_bytes, entry_bytes, row_at, ShortLine, SlotIn}
use Rattle.picks.proofs.CaptureLineLaws.{key-long, key-some, row-long, row_short}

module _ {area : Bytes} {s : Slot} (q : SlotIn area s) where
  pub default-long : length (default_bytes (row_at area s)) ≡ s.len + row_len s.line + 10
  default-long = writers.default-long (row_at area s) ∙ omega (arith, key-long q, row-long q)

  pub entry-long : length (entry_bytes (line_of area s)) ≡ s.len + 1 + length (line_bytes (line_of area s).line)
  unfolding entry_bytes
  entry-long = length-append (piece_bytes (key_of area s)) (line_bytes (line_of area s).line) ∙ omega (arith, key-long q)

  pub size-standing : {l : LockSlot} → s.line ≡ Standing l → s.len + 1 + l.plen + 26 ≡ length (entry_bytes (line_of area s))
  size-standing {l} e =
      let w : place_of s + s.len + past (Standing l) ≤ length area = subst (λ (x : Line). place_of s + s.len + past x ≤ length area) e q.within in
      let at = place_of s + s.len in
      let n : length (line_bytes (line_in area at s.line)) ≡ length (line_bytes (line_in area at (Standing l))) = ap (λ (x : Line). length (line_bytes (line_in area at x))) e in
      omega (arith, entry-long, n, lock-long (record { txn = eight_at area at; primary = bytes_at area (at + 8 + 8 + l.rowlen + 8) l.plen; start = eight_at area (at + 8); ttl = eight_at area (at + 8 + 8 + l.rowlen); kind = l.kind }), bytes-long area (at + 8 + 8 + l.rowlen + 8) l.plen (omega arith))

  pub size-finished : {w : RecordSlot} → s.line ≡ Finished w → s.len + 26 ≡ length (entry_bytes (line_of area s))
  size-finished {w} e =
      let at = place_of s + s.len in
      let n : length (line_bytes (line_in area at s.line)) ≡ length (line_bytes (line_in area at (Finished w))) = ap (λ (x : Line). length (line_bytes (line_in area at x))) e in
      omega (arith, entry-long, n, record-long (record { stamp = eight_at area at; start = eight_at area (at + 8); commit = eight_at area at; kind = w.kind }))

  pub entry-small : length (entry_bytes (line_of area s)) ≤ 400
  entry-small = go s.line refl
    where
      go : (x : Line) → s.line ≡ x → length (entry_bytes (line_of area s)) ≤ 400
      go (Standing l) e = let h : ShortLine (Standing l) = subst ShortLine e q.short in omega (arith, size-standing e, h.0, (key-some q).1)
      go (Finished w) e = omega (arith, size-finished e, (key-some q).1)

  pub default-small : length (default_bytes (row_at area s)) ≤ 400
  default-small = omega (arith, default-long, (key-some q).1, row_short q)
