-- A chain of steps, read by a program that makes the tests in the same order: at a test that fails the answer is out, at one that holds the
-- rest of the chain is. `search chain` closes each way out of such a program, under `unfolding` of the chain's own definition; where a step
-- is the answer of a call, `search (chain, calls)`; where a reply follows the steps, `search (chain, replies)`. Assumes nothing.
use Prim.Native.Nat.{ℕ}
use mathlib.Core.Path.{◌≡◌, sym, ◌∙◌}
use mathlib.Core.Bool.{Bool, true, false, not}
use lib.Dec.{eqb}
use borrow.Author.Tests.{eq-eqb, ne_eqb, lt-ltb, le-ltb, le-leb, lt-leb, not-true, not-false}
use Rattle.rules.specs.Answers.{Answer, Accepted, No, Held, Holder, ◌▸◌, need, need_own, Reply, refused, if_passed}
use Rattle.laws.proofs.StepLaws.{then-assoc, and_both, and-false, and-false-right}

-- ---- a step that is a test

pub out : (t : Bool) (n : ℕ) (v : Answer) → t ≡ false → No n ≡ need t n ▸ v
unfolding ◌▸◌ need
out t n v h = rw h

pub on : (t : Bool) (n : ℕ) (a v : Answer) → t ≡ true → a ≡ v → a ≡ need t n ▸ v
unfolding ◌▸◌ need
on t n a v h e = rw h e

pub last_out : (t : Bool) (n : ℕ) → t ≡ false → No n ≡ need t n
unfolding need
last_out t n h = rw h

pub last_on : (t : Bool) (n : ℕ) → t ≡ true → Accepted ≡ need t n
unfolding need
last_on t n h = rw h

-- ---- a step that asks for an own lock

pub own_out : (t : Bool) (o : Holder) (v : Answer) → t ≡ false → Held o ≡ need_own t o ▸ v
unfolding ◌▸◌ need_own
own_out t o v h = rw h

pub own_on : (t : Bool) (o : Holder) (a v : Answer) → t ≡ true → a ≡ v → a ≡ need_own t o ▸ v
unfolding ◌▸◌ need_own
own_on t o a v h e = rw h e

pub own-last-out : (t : Bool) (o : Holder) → t ≡ false → Held o ≡ need_own t o
unfolding need_own
own-last-out t o h = rw h

pub own-last-on : (t : Bool) (o : Holder) → t ≡ true → Accepted ≡ need_own t o
unfolding need_own
own-last-on t o h = rw h

-- ---- a step that is a call's answer

pub call-no : (n : ℕ) (r v w : Answer) → r ≡ v → r ≡ No n → No n ≡ v ▸ w
unfolding ◌▸◌
call-no n r v w e h = rw (sym e ∙ h)

pub call-held : (o : Holder) (r v w : Answer) → r ≡ v → r ≡ Held o → Held o ≡ v ▸ w
unfolding ◌▸◌
call-held o r v w e h = rw (sym e ∙ h)

pub call-on : (a r v w : Answer) → r ≡ v → r ≡ Accepted → a ≡ w → a ≡ v ▸ w
unfolding ◌▸◌
call-on a r v w e h q = rw (sym e ∙ h) q

pub call-last-no : (n : ℕ) (r v : Answer) → r ≡ v → r ≡ No n → No n ≡ v
call-last-no n r v e h = sym h ∙ e

pub call-last-held : (o : Holder) (r v : Answer) → r ≡ v → r ≡ Held o → Held o ≡ v
call-last-held o r v e h = sym h ∙ e

pub call-last-on : (r v : Answer) → r ≡ v → r ≡ Accepted → Accepted ≡ v
call-last-on r v e h = sym h ∙ e

-- a chain within a chain
pub nested : (a u v w : Answer) → a ≡ u ▸ (v ▸ w) → a ≡ (u ▸ v) ▸ w
nested a u v w e = e ∙ sym (then-assoc u v w)

-- ---- steps before a reply

pub if_no : {A : Type 0} (n : ℕ) (a : Answer) (r : Reply A) → No n ≡ a → refused (No n) ≡ if_passed a r
unfolding if_passed
if_no n a r e = rw (sym e)

pub if-held : {A : Type 0} (o : Holder) (a : Answer) (r : Reply A) → Held o ≡ a → refused (Held o) ≡ if_passed a r
unfolding if_passed
if-held o a r e = rw (sym e)

pub if-on : {A : Type 0} (a : Answer) (x r : Reply A) → Accepted ≡ a → x ≡ r → x ≡ if_passed a r
unfolding if_passed
if-on a x r e q = rw (sym e) q

-- ---- tests

pub denies : (t : Bool) → t ≡ true → not t ≡ false
denies t h = rw h

pub grants : (t : Bool) → t ≡ false → not t ≡ true
grants t h = rw h

-- the test is a call's answer
pub said-no : (r t : Bool) → r ≡ t → r ≡ false → t ≡ false
said-no r t e h = sym e ∙ h

pub said-yes : (r t : Bool) → r ≡ t → r ≡ true → t ≡ true
said-yes r t e h = sym e ∙ h

pub denied : (r t : Bool) → r ≡ t → not r ≡ true → t ≡ false
denied r t e h = sym e ∙ not-true r h

pub granted : (r t : Bool) → r ≡ t → not r ≡ false → t ≡ true
granted r t e h = sym e ∙ not-false r h

-- the tests of numbers
pub zero_is : (a : ℕ) → a ≡ 0 → not (eqb a 0) ≡ false
zero_is a h = rw (eq-eqb a 0 h)

pub zero-not : (a : ℕ) → (a ≡ 0 → ⊥) → not (eqb a 0) ≡ true
zero-not a h = rw (ne_eqb a 0 h)

pub ruleset tests = (zero_is, zero-not, eq-eqb, ne_eqb, lt-ltb, le-ltb, le-leb, lt-leb, and_both, and-false, and-false-right, denies, grants, said-no, said-yes, denied, granted)

-- each way out of a chain whose steps are tests
pub ruleset chain = (out, on, last_out, last_on, own_out, own_on, own-last-out, own-last-on, tests)

-- the steps that are calls' answers, chains within chains, and the steps before a reply: beside `chain` where a program has them
pub ruleset calls = (call-no, call-held, call-on, call-last-no, call-last-held, call-last-on)

pub ruleset replies = (if_no, if-held, if-on)
