-- What follows when all the steps of a checking pass have passed: `search passed` takes a chain that is Accepted apart; and that an answer of
-- the case that is due has the paper's number and holder.
-- Assumes nothing.
use Prim.Native.Nat.{ℕ}
use mathlib.Core.Path.{◌≡◌, refl, sym, ap}
use mathlib.Core.Bool.{Bool, true, false, ◌&&◌, ◌||◌, not}
use mathlib.Core.Option.{Option, none, some}
use Rattle.forms.specs.Readers.{is_some}
use Rattle.rules.specs.Answers.{Answer, Accepted, No, Held, Holder, number, holder, Answered, ◌▸◌, need, need_own}

pub answered : {due got : Answer} → got ≡ due → Answered due got
answered e = record { number_is = ap number e; holder_is = ap holder e; case_is = e }

pub then-left : (v w : Answer) → v ▸ w ≡ Accepted → v ≡ Accepted
unfolding ◌▸◌
then-left Accepted w h = refl
then-left (No n) w h = h
then-left (Held o) w h = h

pub then-right : (v w : Answer) → v ▸ w ≡ Accepted → w ≡ Accepted
unfolding ◌▸◌
then-right Accepted w h = h
then-right (No n) w h = cc
then-right (Held o) w h = cc

pub then-both : (v w : Answer) → v ≡ Accepted → w ≡ Accepted → v ▸ w ≡ Accepted
unfolding ◌▸◌
then-both v w p q = rw p q

pub then-assoc : (u v w : Answer) → (u ▸ v) ▸ w ≡ u ▸ (v ▸ w)
unfolding ◌▸◌
then-assoc Accepted v w = refl
then-assoc (No n) v w = refl
then-assoc (Held o) v w = refl

pub need-true : (t : Bool) (n : ℕ) → need t n ≡ Accepted → t ≡ true
unfolding need
need-true true n h = refl
need-true false n h = cc

pub need-is : (t : Bool) (n : ℕ) → t ≡ true → need t n ≡ Accepted
unfolding need
need-is t n h = rw h

pub own-true : (t : Bool) (o : Holder) → need_own t o ≡ Accepted → t ≡ true
unfolding need_own
own-true true o h = refl
own-true false o h = cc

pub and_left : (a b : Bool) → a && b ≡ true → a ≡ true
and_left true b h = refl
and_left false b h = h

pub and_right : (a b : Bool) → a && b ≡ true → b ≡ true
and_right true b h = h
and_right false b h = cc

pub and_both : (a b : Bool) → a ≡ true → b ≡ true → a && b ≡ true
and_both a b p q = rw (p, q)

pub and-false : (a b : Bool) → a ≡ false → a && b ≡ false
and-false a b p = rw p

pub and-false-right : (a b : Bool) → b ≡ false → a && b ≡ false
and-false-right true b q = q
and-false-right false b q = refl

pub or-false-left : (a b : Bool) → a || b ≡ false → a ≡ false
or-false-left true b h = h
or-false-left false b h = refl

pub or-false-right : (a b : Bool) → a || b ≡ false → b ≡ false
or-false-right true b h = cc
or-false-right false b h = h

pub not-true : (a : Bool) → not a ≡ true → a ≡ false
not-true true h = sym h
not-true false h = refl

-- what is not there
pub is_none : {A : Type 0} (o : Option A) → is_some o ≡ false → o ≡ none
is_none none h = refl
is_none (some x) h = cc

pub none-there : {A : Type 0} (o : Option A) → not (is_some o) ≡ true → o ≡ none
none-there o h = is_none o (not-true (is_some o) h)

-- by the two values of a test
pub by-test : (P : Bool → Type 0) (t : Bool) → (t ≡ true → P true) → (t ≡ false → P false) → P t
by-test P true f g = f refl
by-test P false f g = g refl

-- what a checking pass that has passed says of its steps: `search passed`
pub ruleset passed = (then-left, then-right, need-true, own-true, and_left, and_right)
