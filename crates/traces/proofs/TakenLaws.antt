-- What the code takes off the front of bytes: one reader after another, and an argument that a call has or has not.
-- Assumes nothing.
use mathlib.Core.Path.{◌≡◌, refl, sym, ◌∙◌, ap}
use mathlib.Core.Bool.{Bool, true, false}
use mathlib.Core.List.{[], ◌∷◌}
use mathlib.Core.Option.{Option, none, some}
use Prim.Native.Nat.{◌<◌}
use native.Mathlib.Omega.{arith}
use lib.ListN.{length}
use Rattle.std.specs.Prelude.{Option as Maybe, None, Some}
use Rattle.std.specs.Borrow.{Bor}
use Rattle.forms.specs.Bytes.{Bytes}
use Rattle.forms.specs.Readers.{Read, Reader, read_on, ◌>>=◌, just, ended, whole}
use Rattle.forms.proofs.ReaderLaws.{after}
use Rattle.traces.specs.Taken.{took, said, Takes, Ends, behind, given}
use Rattle.traces.specs.Trace.{taken}
use Rattle.traces.specs.Arguments.{remaining}

-- ---- a reader that another follows

module _ {A B C D : Type 0} {r : Reader A} {view : B → A} {see : D → C} {s left : Bytes} (next : A → Reader C) where
  -- the first refuses
  pub stops : {rest : Bytes} → Takes r view s None left → Takes (r >>= next) see s None rest
  unfolding ◌>>=◌ read_on
  stops v = record { is = after next v.is }

  -- the second reads on where the first ended
  pub goes_on : {x : B} {o : Maybe D} {rest : Bytes} → Takes r view s (Some x) left → Takes (next (view x)) see left o rest → Takes (r >>= next) see s o rest
  unfolding ◌>>=◌ read_on
  goes_on v w = record { is = after next v.is ∙ w.is }

-- the same, to the end of the bytes
module _ {A B C D : Type 0} {r : Reader A} {view : B → A} {see : D → C} {s left : Bytes} (next : A → Reader C) where
  pub stops_all : Takes r view s None left → Ends (r >>= next) see s None
  unfolding ◌>>=◌ read_on whole ended
  stops_all v = record { is = ap ended (after next v.is) }

  pub goes_all : {x : B} {o : Maybe D} → Takes r view s (Some x) left → Ends (next (view x)) see left o → Ends (r >>= next) see s o
  unfolding ◌>>=◌ read_on whole
  goes_all v w = record { is = ap ended (after next v.is) ∙ w.is }

-- what was read is handed on
pub hands_on : {A B : Type 0} {view : B → A} {s : Bytes} (x : B) → Takes (just (view x)) view s (Some x) s
unfolding just
hands_on x = record { is = refl }

-- ---- an argument that a call has or has not

module _ {A B : Type 0} (r : Reader A) {view : B → A} {wanted : Bool} {s : Bytes} where
  pub passes : (x : B) → wanted ≡ false → Takes (given wanted r (view x)) view s (Some x) s
  unfolding just
  passes x h = record { is = ap (λ (w : Bool). given w r (view x) s) h }

  pub has : (y : A) {o : Maybe B} {left : Bytes} → wanted ≡ true → Takes r view s o left → Takes (given wanted r y) view s o left
  has y h v = record { is = ap (λ (w : Bool). given w r y s) h ∙ v.is }

-- ---- the end of the bytes

pub left-over : {A B : Type 0} (r : Reader A) (y : A) {view : B → A} {wanted : Bool} {s : Bytes} → wanted ≡ false → 0 < length s → Ends (given wanted r y) view s None
unfolding whole ended just
left-over r y {s = s} h l = record { is = ap (λ (w : Bool). whole (given w r y) s) h ∙ go s l }
  where
    go : (s : Bytes) → 0 < length s → whole (just y) s ≡ none
    go [] l = absurd (omega arith)
    go (y ∷ s) l = refl

pub takes-rest : {wanted : Bool} {s : Bytes} (t : Bor Bytes) → wanted ≡ true → t.now ≡ s → Ends (given wanted remaining []) behind s (Some t)
unfolding whole ended remaining
takes-rest {s = s} t h e = record { is = ap (λ (w : Bool). whole (given w remaining []) s) h ∙ ap some (sym e) }

pub takes-nothing : {wanted : Bool} {s : Bytes} (t : Bor Bytes) → wanted ≡ false → length s ≡ 0 → t.now ≡ s → Ends (given wanted remaining []) behind s (Some t)
unfolding whole ended just
takes-nothing {s = s} t h l e = record { is = ap (λ (w : Bool). whole (given w remaining []) s) h ∙ go s l ∙ ap some (sym e) }
  where
    go : (s : Bytes) → length s ≡ 0 → whole (just []) s ≡ some s
    go [] l = refl
    go (y ∷ s) l = absurd (omega arith)

-- ---- the last reader, whose value goes into what is said

abbrev by_value : {A C : Type 0} → (A → C) → Option A → Option C
by_value f none = none
by_value f (some x) = some (f x)

ended-by : {A C : Type 0} (f : A → C) (o : Option (Read A)) → ended (read_on o (λ a. just (f a))) ≡ by_value f (ended o)
unfolding ended read_on just
ended-by f none = refl
ended-by {A} f (some q) = go q.got q.rest
  where
    go : (x : A) (t : Bytes) → ended (some (record { got = f x; rest = t })) ≡ by_value f (ended (some (record { got = x; rest = t })))
    go x [] = refl
    go x (y ∷ t) = refl

module _ {A B C D : Type 0} {r : Reader A} {view : B → A} {see : D → C} {s : Bytes} (f : A → C) where
  pub ends_all : {x : B} {y : D} → f (view x) ≡ see y → Ends r view s (Some x) → Ends (r >>= (λ a. just (f a))) see s (Some y)
  unfolding whole ◌>>=◌
  ends_all e v = record { is = ended-by f (r s) ∙ ap (by_value f) v.is ∙ ap some e }

  pub refuses-all : Ends r view s None → Ends (r >>= (λ a. just (f a))) see s None
  unfolding whole ◌>>=◌
  refuses-all v = record { is = ended-by f (r s) ∙ ap (by_value f) v.is }

-- what all of the bytes say, handed on
pub takes-said : {A B : Type 0} {r : Reader A} {view : B → A} {s t : Bytes} {o : Maybe B} → Ends r view s o → Takes (taken (whole r s)) view t o t
unfolding taken just
takes-said {B = B} {view = view} {t = t} {o = o} v = record { is = ap (λ o. taken o t) v.is ∙ go o }
  where
    go : (o : Maybe B) → taken (said view o) t ≡ took view o t
    go None = refl
    go (Some x) = refl
