-- The part that an answer hands back: of one that lies in the area it is what its reply shows, and so what the definition shows.
-- Assumes nothing.
use Prim.Native.Nat.{ℕ, ◌+◌, ◌-◌, ◌≤◌, ◌<◌}
use native.Mathlib.Omega.{arith}
use mathlib.Core.Path.{◌≡◌, refl, sym, ap, ◌∙◌}
use mathlib.Core.List.{[]}
use lib.ListN.{length}
use borrow.Author.Tests.{le-leb, lt-leb}
use Rattle.forms.specs.Bytes.{Bytes, bytes_at}
use Rattle.forms.specs.Row.{Row}
use Rattle.rules.specs.Answers.{Reply, shown}
use Rattle.rules.specs.Box.{Lock}
use Rattle.std.specs.Prelude.{Some, None, Ok, Err}
use Rattle.reads.specs.Seen.{RowSeen, LockSeen, seen_in, SeenBelow, SeenAs, pointed_in, PointedBelow, PointedAs}
use Rattle.reads.specs.Parts.{part_of, row_shown, row_part, RowPart, primary_shown, primary_part, PrimaryPart}

-- ---- a stretch of the area

module _ (area : Bytes) (at len : ℕ) where
  pub part-past : length area < at → [] ≡ part_of area at len
  part-past h = rw (lt-leb at (length area) h)

  pub part-short : at ≤ length area → length area - at < len → [] ≡ part_of area at len
  part-short h g = rw (le-leb at (length area) h, lt-leb len (length area - at) g)

  pub part_in : at ≤ length area → len ≤ length area - at → bytes_at area at len ≡ part_of area at len
  part_in h g = rw (le-leb at (length area) h, le-leb len (length area - at) g)

  pub part-within : at + len ≤ length area → part_of area at len ≡ bytes_at area at len
  part-within h = sym (part_in (omega arith) (omega arith))

-- ---- what an answer shows

row_within : (area : Bytes) (s : RowSeen) → SeenBelow (length area) s → row_part area s ≡ row_shown (seen_in area s)
row_within area (Ok None) h = refl
row_within area (Ok (Some p)) h = part-within area p.at p.len h
row_within area (Err r) h = refl

primary-within : (area : Bytes) (p : LockSeen) → PointedBelow (length area) p → primary_part area p ≡ primary_shown (pointed_in area p)
primary-within area (Ok None) h = refl
primary-within area (Ok (Some i)) h = part-within area i.primary.at i.primary.len h
primary-within area (Err r) h = refl

-- what `row_of` and `primary_of` hand back
pub row-part : (area : Bytes) (s : RowSeen) {part : Bytes} → part ≡ row_part area s → RowPart area s part
row-part area s w = record { is = w; row = λ h. w ∙ row_within area s h }

pub primary-part : (area : Bytes) (s : LockSeen) {part : Bytes} → part ≡ primary_part area s → PrimaryPart area s part
primary-part area s w = record { is = w; primary = λ h. w ∙ primary-within area s h }

-- "A read's row is handed back as that stretch of the store's own bytes": the part of what `read` answered is the row that the definition shows
module _ {want : Reply Row} {area part : Bytes} {s : RowSeen} where
  pub reply-part : SeenAs want area s → RowPart area s part → part ≡ row_shown want
  reply-part r p = p.row r.within ∙ ap row_shown r.is

  pub shows-part : {row : Row} → SeenAs want area s → RowPart area s part → want ≡ shown row → part ≡ row
  shows-part r p e = reply-part r p ∙ ap row_shown e

-- "its primary a stretch of the store's bytes"
module _ {want : Reply Lock} {area part : Bytes} {p : LockSeen} where
  pub reply-primary : PointedAs want area p → PrimaryPart area p part → part ≡ primary_shown want
  reply-primary r q = q.primary r.within ∙ ap primary_shown r.is

  pub points-primary : {l : Lock} → PointedAs want area p → PrimaryPart area p part → want ≡ shown l → part ≡ l.primary
  points-primary r q e = reply-primary r q ∙ ap primary_shown e

-- ---- no second answer fits: two answers that keep the promise are one reply and hand back the same bytes. Where those bytes lie is left open

module _ {want : Reply Row} {area : Bytes} {s t : RowSeen} (a : SeenAs want area s) (b : SeenAs want area t) where
  pub one-reply : seen_in area s ≡ seen_in area t
  one-reply = a.is ∙ sym b.is

  pub one-row : {p q : Bytes} → RowPart area s p → RowPart area t q → p ≡ q
  one-row x y = reply-part a x ∙ sym (reply-part b y)

module _ {want : Reply Lock} {area : Bytes} {s t : LockSeen} (a : PointedAs want area s) (b : PointedAs want area t) where
  pub one-lock : pointed_in area s ≡ pointed_in area t
  one-lock = a.is ∙ sym b.is

  pub one-primary : {p q : Bytes} → PrimaryPart area s p → PrimaryPart area t q → p ≡ q
  one-primary x y = reply-primary a x ∙ sym (reply-primary b y)
