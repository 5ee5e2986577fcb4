-- What a read and one intent at a point show, told: that the payload of what they answer in numbers is the reply's, and how long it is at
-- most.
-- Assumes nothing.
use Prim.Native.Nat.{ℕ, ◌≤◌}
use native.Mathlib.Omega.{arith}
use mathlib.Core.Path.{◌≡◌, refl, sym, ◌∙◌, ap, subst}
use mathlib.Core.Bool.{Bool, true, false, ◌&&◌, not}
use mathlib.Core.List.{List, [], ◌∷◌}
use mathlib.Core.Option.{Option, none, some}
use lib.ListN.{length}
use lib.Dec.{ltb, eqb}
use Rattle.seqs.proofs.Tests.{and_right}
use Rattle.std.specs.Prelude.{None, Some, Ok, Err}
use Rattle.forms.specs.Bytes.{Bytes}
use Rattle.rules.specs.Outcomes.{outcome}
use Rattle.forms.specs.Key.{Key, key_form}
use Rattle.forms.specs.Row.{Row, row_form}
use Rattle.forms.proofs.KeyFormLaws.{key-bounds}
use Rattle.forms.proofs.RowLaws.{row-bounds}
use Rattle.rules.specs.Answers.{Answer, Accepted, No, Held, Reply, refused, answer_of, if_passed}
use Rattle.rules.specs.declared.records.Kind.{Kind}
use Rattle.rules.specs.declared.records.Kind.TheVariants.{Put, Delete, Rollback}
use Rattle.rules.specs.declared.records.Record.{Record}
use Rattle.rules.specs.Box.{Box, Lock, Default, eq_kind, lock_of}
use Rattle.rules.specs.Sound.{sound_record, sound_lock}
use Rattle.rules.specs.Read.{show_if, show_row, Examined, one_record, walk, examine}
use Rattle.rules.specs.Intent.{lock_if, unless_above, judge_lock, intent_at}
use Rattle.reads.specs.Seen.{RowSeen, LockSeen, shown_lock, seen_in, SeenBelow, SeenAs, pointed_in, PointedBelow, PointedAs}
use Rattle.reads.specs.Parts.{RowPart, PrimaryPart, row_shown, primary_shown}
use Rattle.traces.specs.Payloads.{lock_payload, read_payload, intent_payload}
use Rattle.traces.proofs.FormLaws.{length-lock}
use Rattle.showing.specs.Replying.{seen_payload, pointed_payload}

-- ---- how long the payloads are

-- what holds of every refusal and of a reply holds of the reply after steps
after-steps : {A : Type 0} (P : Reply A → Type 0) → ((a : Answer) → P (refused a)) → (a : Answer) (r : Reply A) → P r → P (if_passed a r)
unfolding if_passed
after-steps P f Accepted r h = h
after-steps P f (No n) r h = f (No n)
after-steps P f (Held o) r h = f (Held o)

abbrev pub RowShort : Reply Row → Type 0
RowShort r = length (read_payload r) ≤ 256

-- "Length 2 to 255": a row that is shown is in form
row_short : (o : Option Row) → RowShort (show_row o)
unfolding read_payload show_row show_if
row_short none = omega arith
row_short (some r) = by_form (row_form r) refl
  where
    by_form : (f : Bool) → row_form r ≡ f → RowShort (show_if f r)
    by_form true e = omega (arith, (row-bounds r e).short)
    by_form false e = omega arith

one-short : (s : Bool) (k : Kind) (row : Reply Row) (older : Examined) → RowShort row → RowShort older.reply → RowShort (one_record s k row older).reply
unfolding read_payload one_record
one-short true Put row older h g = h
one-short true Delete row older h g = omega arith
one-short true Rollback row older h g = g
one-short false k row older h g = omega arith

walk-short : (k : Key) (ds : List Default) (ws : List Record) → RowShort (walk k ds ws).reply
unfolding read_payload walk
walk-short k ds [] = omega arith
walk-short k ds (w ∷ ws) = one-short (sound_record w) w.kind _ _ (row_short _) (walk-short k ds ws)

refused-row : (a : Answer) → RowShort (refused a)
unfolding read_payload
refused-row a = omega arith

pub read_short : (floor : ℕ) (k : Key) (m : ℕ) (b : Box) → RowShort (examine floor k m b).reply
unfolding examine
read_short floor k m b = after-steps RowShort refused-row _ _ (walk-short k b.defaults _)

abbrev pub LockShort : Reply Lock → Type 0
LockShort r = length (intent_payload r) ≤ 75

refused-lock : (a : Answer) → LockShort (refused a)
unfolding intent_payload
refused-lock a = omega arith

-- "primary a key": a lock that is shown is sound
sound-primary : (l : Lock) → sound_lock l ≡ true → key_form l.primary ≡ true
unfolding sound_lock
sound-primary l e = and_right (not (eqb l.txn 0) && not (eqb l.start 0) && not (eqb l.ttl 0) && not (eq_kind l.kind Rollback)) _ e

lock-short : (l : Lock) → LockShort (lock_if (sound_lock l) l)
unfolding intent_payload lock_if
lock-short l = by-sound (sound_lock l) refl
  where
    by-sound : (f : Bool) → sound_lock l ≡ f → LockShort (lock_if f l)
    by-sound true e = omega (arith, length-lock l.txn l.primary l.start l.ttl l.kind, (key-bounds l.primary (sound-primary l e)).short)
    by-sound false e = omega arith

above-short : (f : Bool) (r : Reply Lock) → LockShort r → LockShort (unless_above f r)
unfolding intent_payload unless_above
above-short true r h = omega arith
above-short false r h = h

judge-short : (m : ℕ) (o : Option Lock) → LockShort (judge_lock m o)
unfolding intent_payload judge_lock
judge-short m none = omega arith
judge-short m (some l) = above-short (ltb m l.start) _ (lock-short l)

pub intent-short : (k : Key) (m : ℕ) (b : Box) → LockShort (intent_at k m b)
unfolding intent_at
intent-short k m b = after-steps LockShort refused-lock _ _ (judge-short m (lock_of k b.lines))

-- ---- a reply, told

module _ {want : Reply Row} {area : Bytes} {s : RowSeen} (v : SeenAs want area s) where
  pub seen-answer : outcome s ≡ answer_of want
  seen-answer = by-case s ∙ ap (λ (x : Reply Row). answer_of x) v.is
    where
      by-case : (q : RowSeen) → outcome q ≡ answer_of (seen_in area q)
      by-case (Ok None) = refl
      by-case (Ok (Some p)) = refl
      by-case (Err r) = refl

  pub seen-payload : {row : Bytes} → RowPart area s row → seen_payload s row ≡ read_payload want
  unfolding read_payload
  seen-payload {row} p = by-case s p.row v.within ∙ ap read_payload v.is
    where
      by-case : (q : RowSeen) → (SeenBelow (length area) q → row ≡ row_shown (seen_in area q)) → SeenBelow (length area) q → seen_payload q row ≡ read_payload (seen_in area q)
      by-case (Ok None) f h = refl
      by-case (Ok (Some p)) f h = ap (λ (x : Bytes). 1 ∷ x) (f h)
      by-case (Err r) f h = refl

  pub row_fits : {row : Bytes} {n : ℕ} → RowPart area s row → RowShort want → 256 ≤ n → length (seen_payload s row) ≤ n
  row_fits p h g = omega (arith, ap length (seen-payload p))

module _ {want : Reply Lock} {area : Bytes} {s : LockSeen} (v : PointedAs want area s) where
  pub pointed-answer : outcome s ≡ answer_of want
  pointed-answer = by-case s ∙ ap (λ (x : Reply Lock). answer_of x) v.is
    where
      by-case : (q : LockSeen) → outcome q ≡ answer_of (pointed_in area q)
      by-case (Ok None) = refl
      by-case (Ok (Some l)) = refl
      by-case (Err r) = refl

  pub pointed-payload : {primary : Bytes} → PrimaryPart area s primary → pointed_payload s primary ≡ intent_payload want
  unfolding intent_payload
  pointed-payload {primary} p = by-case s p.primary v.within ∙ ap intent_payload v.is
    where
      by-case : (q : LockSeen) → (PointedBelow (length area) q → primary ≡ primary_shown (pointed_in area q)) → PointedBelow (length area) q → pointed_payload q primary ≡ intent_payload (pointed_in area q)
      by-case (Ok None) f h = refl
      by-case (Ok (Some l)) f h = ap (λ (x : Bytes). lock_payload l.txn x l.start l.ttl l.kind) (f h)
      by-case (Err r) f h = refl

  -- a primary that is handed back is short enough for its length byte
  pub primary_short : {primary : Bytes} → LockShort want → PrimaryPart area s primary → length primary ≤ 255
  unfolding intent_payload
  primary_short {primary} h p = by-case s p.primary v.within (subst LockShort (sym v.is) h)
    where
      by-case : (q : LockSeen) → (PointedBelow (length area) q → primary ≡ primary_shown (pointed_in area q)) → PointedBelow (length area) q → LockShort (pointed_in area q) → length primary ≤ 255
      by-case (Ok None) f g k = omega (arith, ap length (f g))
      by-case (Ok (Some l)) f g k =
          let x : Lock = shown_lock area l in
          omega (arith, ap length (f g), length-lock x.txn x.primary x.start x.ttl x.kind)
      by-case (Err r) f g k = omega (arith, ap length (f g))

  pub lock-fits : {primary : Bytes} {n : ℕ} → PrimaryPart area s primary → LockShort want → 256 ≤ n → length (pointed_payload s primary) ≤ n
  lock-fits p h g = omega (arith, ap length (pointed-payload p))
