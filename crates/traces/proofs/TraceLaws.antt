-- A trace, judged: its count, then each call, to the end.
-- Assumes nothing.
use Prim.Native.Nat.{ℕ, suc, ◌-◌, ◌≤◌, ◌<◌}
use native.Mathlib.Omega.{arith}
use mathlib.Core.Path.{◌≡◌, refl, sym, ◌∙◌, ap}
use mathlib.Core.Bool.{Bool, true, false}
use mathlib.Core.List.{List, [], ◌∷◌}
use mathlib.Core.Option.{Option, none, some}
use lib.ListN.{length}
use lib.Dec.{leb}
use borrow.Author.Tests.{le-leb, lt-leb}
use Rattle.std.specs.Prelude.{Option as Maybe, None, Some}
use Rattle.std.specs.Borrow.{Bor}
use Rattle.forms.specs.Bytes.{Bytes}
use Rattle.forms.specs.Readers.{Reader, read_on, ◌>>=◌, just, times, section, ended, whole, is_some}
use Rattle.forms.specs.Places.{entries}
use Rattle.forms.proofs.ReaderLaws.{after}
use Rattle.forms.proofs.ReadAllLaws.{with_head, entries-bad, entries-more}
use Rattle.traces.specs.declared.args.Args.{Args}
use Rattle.traces.specs.declared.trace.Calls.{Calls}
use Rattle.traces.specs.Calls.{call_from, call}
use Rattle.traces.specs.Trace.{framed, taken, framed_call, calls_from, up_to_length, trace, trace_form}
use Rattle.traces.specs.Taken.{behind, Takes, Ends}
use Rattle.traces.specs.Args.{call_of}
use Rattle.traces.specs.Walk.{Starts}
use Rattle.traces.proofs.TakenLaws.{stops, goes_on, takes-said}

-- ---- a call after its length, and its arguments

module _ {s rest : Bytes} where
  pub call-cut : Takes framed behind s None rest → Takes framed_call call_of s None rest
  unfolding framed_call
  call-cut v = stops _ v

  pub call-reads : {t : Bor Bytes} {o : Maybe Args} → Takes framed behind s (Some t) rest → Ends call_from call_of t.now o → Takes framed_call call_of s o rest
  unfolding framed_call call taken
  call-reads v w = goes_on _ v (takes-said w)

-- ---- the judge's loop, for every reader: the entries of s are still to be judged

pub record Counting {A : Type 0} (r : Reader A) (start : Bytes) (count : ℕ) (s : Bytes) (left : ℕ) : Type 0 where
  pub is : is_some (entries r count start) ≡ is_some (entries r left s)

pub counting-start : {A : Type 0} (r : Reader A) (s : Bytes) (count left : ℕ) → left ≡ count → Counting r s count s left
counting-start r s count left e = record { is = ap (λ (n : ℕ). is_some (entries r n s)) (sym e) }

some_with : {A : Type 0} (x : A) (o : Option (List A)) → is_some (with_head x o) ≡ is_some o
some_with x none = refl
some_with x (some xs) = refl

module _ {A B : Type 0} {r : Reader A} {view : B → A} {start s rest : Bytes} {count left : ℕ} (v : Counting r start count s left) where
  pub counting-bad : 0 < left → Takes r view s None rest → false ≡ is_some (entries r count start)
  counting-bad more w =
      let q : left ≡ suc (left - 1) = omega arith in
      sym (v.is ∙ ap (λ (n : ℕ). is_some (entries r n s)) q ∙ ap is_some (entries-bad r (left - 1) s w.is))

  pub counting_more : {x : B} {n : ℕ} → suc n ≡ left → Takes r view s (Some x) rest → Counting r start count rest n
  counting_more {x} {n} q w = record {
    is = v.is ∙ ap (λ (n : ℕ). is_some (entries r n s)) (sym q) ∙ ap is_some (entries-more r n s w.is) ∙ some_with (view x) (entries r n rest);
  }

module _ {A : Type 0} {r : Reader A} {start s : Bytes} {count left : ℕ} (v : Counting r start count s left) (last : left ≡ 0) where
  pub counting-end : length s ≡ 0 → true ≡ is_some (entries r count start)
  unfolding entries whole times ended just
  counting-end h = sym (v.is ∙ ap (λ (n : ℕ). is_some (entries r n s)) last ∙ go s h)
    where
      go : (s : Bytes) → length s ≡ 0 → is_some (entries r 0 s) ≡ true
      go [] h = refl
      go (x ∷ s) h = absurd (omega arith)

  pub counting-over : 0 < length s → false ≡ is_some (entries r count start)
  unfolding entries whole times ended just
  counting-over h = sym (v.is ∙ ap (λ (n : ℕ). is_some (entries r n s)) last ∙ go s h)
    where
      go : (s : Bytes) → 0 < length s → is_some (entries r 0 s) ≡ false
      go [] h = absurd (omega arith)
      go (x ∷ s) h = refl

-- ---- the whole

module _ {s : Bytes} where
  pub calls-none : Starts s None → whole calls_from s ≡ none
  unfolding whole calls_from section ◌>>=◌ read_on ended
  calls-none v = ap ended (after (λ n. times n framed_call) v.is)

  pub calls-counted : {c : Calls} → Starts s (Some c) → whole calls_from s ≡ entries framed_call c.left c.reader.left.now
  unfolding whole calls_from section ◌>>=◌ read_on entries
  calls-counted v = ap ended (after (λ n. times n framed_call) v.is)

abbrev pub form_if : Bytes → Bool → Bool
form_if s b = is_some (up_to_length b (whole calls_from s))

form-is : (s : Bytes) {b : Bool} → leb (length s) 262144 ≡ b → trace_form s ≡ form_if s b
unfolding trace_form trace
form-is s e = ap (form_if s) e

pub trace-long : (s : Bytes) → 262144 < length s → false ≡ trace_form s
unfolding up_to_length
trace-long s h = sym (form-is s (lt-leb _ _ h))

pub trace-short : (s : Bytes) → length s ≤ 262144 → is_some (whole calls_from s) ≡ trace_form s
unfolding up_to_length
trace-short s h = sym (form-is s (le-leb _ _ h))
