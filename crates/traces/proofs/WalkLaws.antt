-- The walk over a judged trace: it hands out the definition's calls, in order, all of them.
-- Assumes nothing.
use Prim.Native.Nat.{ℕ, zero, suc, ◌-◌, ◌≤◌, ◌<◌}
use native.Mathlib.Omega.{arith}
use mathlib.Core.Path.{◌≡◌, refl, sym, ◌∙◌, ap, subst}
use mathlib.Core.Bool.{Bool, true, false, true≢false}
use mathlib.Core.List.{List, [], ◌∷◌}
use mathlib.Core.Option.{Option, none, some}
use lib.ListN.{length}
use lib.Dec.{leb}
use borrow.Author.Tests.{le-leb, leb-true, leb-false}
use Rattle.std.specs.Prelude.{Option as Maybe, None, Some, IfSome}
use Rattle.std.specs.Borrow.{Bor}
use Rattle.forms.specs.Bytes.{Bytes}
use Rattle.forms.specs.Readers.{Reader, just, times, ended, whole, is_some}
use Rattle.forms.specs.Places.{entries}
use Rattle.forms.proofs.ReadAllLaws.{with_head, entries-bad, entries-more}
use Rattle.traces.specs.declared.args.Args.{Args}
use Rattle.traces.specs.declared.trace.Calls.{Calls}
use Rattle.traces.specs.Calls.{TraceCall, call_from}
use Rattle.traces.specs.Trace.{framed, framed_call, calls_from, up_to_length, trace, trace_form}
use Rattle.traces.specs.Taken.{behind, Takes, Ends}
use Rattle.traces.specs.Args.{call_of}
use Rattle.traces.specs.Walk.{Starts, list_of, ahead, Ahead}
use Rattle.traces.proofs.TraceLaws.{call-cut, call-reads, calls-none, calls-counted, trace-long}

-- ---- a trace in form: what its bytes say is the calls that are to come

pub record Driven (s : Bytes) (o : Maybe Calls) : Type 0 where
  pub calls : Calls
  pub found : o ≡ Some calls
  pub is : trace s ≡ some (ahead framed_call calls.left calls.reader.left.now)
  pub ahead_is : Ahead framed_call calls.left calls.reader.left.now

trace-is : (s : Bytes) → length s ≤ 262144 → trace s ≡ whole calls_from s
unfolding trace up_to_length
trace-is s l = ap (λ (b : Bool). up_to_length b (whole calls_from s)) (le-leb _ _ l)

driven-at : (s : Bytes) (o : Maybe Calls) → Starts s o → (q : Option (List TraceCall)) → trace s ≡ q → whole calls_from s ≡ q → true ≡ is_some q → Driven s o
unfolding ahead
driven-at s o v none p w e = absurd (true≢false e)
driven-at s None v (some xs) p w e = absurd (true≢false (cc (calls-none v)))
driven-at s (Some c) v (some xs) p w e =
    let k : entries framed_call c.left c.reader.left.now ≡ some xs = sym (calls-counted v) ∙ w in
    let a : ahead framed_call c.left c.reader.left.now ≡ xs = ap list_of k in
    record { calls = c; found = refl; is = p ∙ ap some (sym a); ahead_is = record { is = k ∙ ap some (sym a) } }

pub trace-driven : {s : Bytes} {o : Maybe Calls} → Starts s o → true ≡ trace_form s → Driven s o
unfolding trace_form
trace-driven {s} {o} v e = go (leb (length s) 262144) refl
  where
    go : (b : Bool) → leb (length s) 262144 ≡ b → Driven s o
    go false p = absurd (true≢false (e ∙ sym (trace-long s (leb-false _ _ p))))
    go true p = driven-at s o v (trace s) refl (sym (trace-is s (leb-true _ _ p))) e

-- ---- the walk over it

pub ahead-end : {A : Type 0} {r : Reader A} {left : ℕ} {s : Bytes} → Ahead r left s → left ≤ 0 → ahead r left s ≡ []
unfolding ahead entries whole times just ended
ahead-end {A = A} {r = r} {left = left} {s = s} v h = let z : left ≡ 0 = omega arith in ap (λ (n : ℕ). list_of (entries r n s)) z ∙ go s
  where
    go : (l : Bytes) → ◌≡◌ {A = List A} (list_of (entries r 0 l)) []
    go [] = refl
    go (x ∷ l) = refl

-- the first of the entries still to come, and those after it
pub record Next {A B : Type 0} (r : Reader A) (view : B → A) (left : ℕ) (s : Bytes) (o : Maybe B) (rest : Bytes) : Type 0 where
  pub got : B
  pub found : o ≡ Some got
  pub is : ahead r left s ≡ view got ∷ ahead r (left - 1) rest
  pub after : Ahead r (left - 1) rest

module _ {A B : Type 0} {r : Reader A} {view : B → A} {s rest : Bytes} (n : ℕ) where
  next-by : (x : B) → Takes r view s (Some x) rest → (q : Option (List A)) → entries r n rest ≡ q → entries r (suc n) s ≡ some (ahead r (suc n) s) → Next r view (suc n) s (Some x) rest
  unfolding ahead
  next-by x v none e g =
      let z : none ≡ some (ahead r (suc n) s) = sym (entries-more r n s v.is ∙ ap (with_head (view x)) e) ∙ g in
      absurd (true≢false (cc))
  next-by x v (some xs) e g =
      let k : n ≡ suc n - 1 = omega arith in
      let a : xs ≡ ahead r n rest = sym (ap list_of e) in
      record {
        got = x;
        found = refl;
        is = ap list_of (entries-more r n s v.is ∙ ap (with_head (view x)) e) ∙ ap (λ (l : List A). view x ∷ l) (a ∙ ap (λ (m : ℕ). ahead r m rest) k);
        after = record { is = subst (λ (m : ℕ). entries r m rest ≡ some (ahead r m rest)) k (e ∙ ap some a) };
      }

  pub next-after : (o : Maybe B) → Takes r view s o rest → Ahead r (suc n) s → Next r view (suc n) s o rest
  next-after None v w =
      let z : none ≡ some (ahead r (suc n) s) = sym (entries-bad r n s v.is) ∙ w.is in
      absurd (true≢false (cc))
  next-after (Some x) v w = next-by x v (entries r n rest) refl w.is

pub ahead-next : {A B : Type 0} {r : Reader A} {view : B → A} {left : ℕ} {s rest : Bytes} {o : Maybe B} → Ahead r left s → Takes r view s o rest → 0 < left → Next r view left s o rest
ahead-next {left = zero} v w more = absurd (omega arith)
ahead-next {left = suc n} {o = o} v w more = next-after n o w v

-- the next call's bytes are there, they are a call in form, and those after it are the rest
pub record NextCall (left : ℕ) (s : Bytes) (o : Maybe (Bor Bytes)) (a : Bytes → Maybe Args) (rest : Bytes) : Type 0 where
  pub bytes : Bor Bytes
  pub args : Args
  pub found : o ≡ Some bytes
  pub formed : a bytes.now ≡ Some args
  pub is : ahead framed_call left s ≡ call_of args ∷ ahead framed_call (left - 1) rest
  pub after : Ahead framed_call (left - 1) rest

pub call_next : {left : ℕ} {s rest : Bytes} (o : Maybe (Bor Bytes)) (a : Bytes → Maybe Args) → Ahead framed_call left s → Takes framed behind s o rest → ((t : Bytes) → Ends call_from call_of t (a t)) → 0 < left → NextCall left s o a rest
call_next None a v u w more = absurd (true≢false (cc (ahead-next v (call-cut u) more).found))
call_next (Some t) a v u w more =
    let n = ahead-next v (call-reads u (w t.now)) more in
    record { bytes = t; args = n.got; found = refl; formed = n.found; is = n.is; after = n.after }

-- what is said of the calls that there may be
pub starts-some : {s : Bytes} (o : Maybe Calls) → Starts s o → IfSome o (λ c. Starts s (Some c))
starts-some None v = tt
starts-some (Some c) v = v
