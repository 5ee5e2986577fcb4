-- The applying pass over the entries of a batch, for every call: what is left to apply to the store as it is.
-- Assumes nothing.
use Prim.Native.Nat.{ℕ, ◌+◌, ◌*◌, ◌≤◌, ◌<◌}
use native.Mathlib.Omega.{arith}
use native.Mathlib.Nat.{suc-mul}
use native.Mathlib.Numerals.{add-one}
use mathlib.Core.Path.{◌≡◌, refl, sym, ap, ◌∙◌, subst}
use mathlib.Core.Bool.{true}
use mathlib.Core.List.{List, [], ◌∷◌, map}
use lib.ListN.{length, get_or, drop, drop_of_length-le}
use lib.Seq.{drop-cons}
use Rattle.seqs.proofs.Alls.{all-at}
use Rattle.forms.specs.Bytes.{Bytes}
use Rattle.forms.specs.Key.{Key}
use Rattle.forms.specs.Batch.{ascend}
use Rattle.forms.specs.Places.{mutation_of, EntryIn}
use Rattle.forms.specs.declared.batch.Entry.{Entry}
use Rattle.rules.specs.Answers.{Answer, Accepted}
use Rattle.rules.specs.Box.{Box}
use Rattle.laws.proofs.StepLaws.{then-left}
use Rattle.laws.proofs.FrameLaws.{ascend-rest}
use Rattle.laws.proofs.BatchLaws.{check_all, apply_all, Depends, Only, still-pass}
use Rattle.ledger.specs.Tidy.{LocksAbove}
use Rattle.store.specs.declared.table.Store.{Store}
use Rattle.store.specs.View.{box_of}
use Rattle.store.specs.Made.{Built}
use Rattle.store.proofs.FloorLaws.{above_same}
use Rattle.changes.specs.declared.change.Change.{Change}
use Rattle.changes.specs.Changes.{changed}
use Rattle.changes.proofs.TableLaws.{changed-floor}
use Rattle.actions.specs.declared.action.Action.{Action}
use Rattle.actions.specs.EntryAsks.{Applied}
use Rattle.actions.specs.Actions.{most_of, apply_of, StartsAbove}
use Rattle.actions.proofs.ApplyEntryLaws.{applied-above}
use Rattle.calls.specs.Settled.{Untouched}
use Rattle.calls.specs.Passes.{apply_entry, EntryReady, EntryAt, Ready, ApplyAsks, AllApplied}

-- a call's steps at one entry, by its key: its check and its change
pub record Changes (A : Type 0) : Type 0 where
  pub key : A → Key
  pub start : ℕ
  pub check : Box → A → Answer
  pub apply : A → Box → Box
  pub depends : Depends key start check
  pub only : Only key start apply

-- the entries that are left are in order, would pass, and lead to the box that is wanted
pub record Applying {A : Type 0} (c : Changes A) (want : Box) (b : Box) (rest : List A) : Type 0 where
  pub ascends : ascend c.key rest ≡ true
  pub passed : check_all c.check b rest ≡ Accepted
  pub is : apply_all c.apply rest b ≡ want

module _ {A : Type 0} {c : Changes A} {want b : Box} {x : A} {rest : List A} (v : Applying c want b (x ∷ rest)) where
  pub applying-passed : c.check b x ≡ Accepted
  unfolding check_all
  applying-passed = then-left _ _ v.passed

  applying-more : {b' : Box} → b' ≡ c.apply x b → Applying c want b' rest
  unfolding apply_all
  applying-more {b'} e = record {
    ascends = ascend-rest c.key x rest v.ascends;
    passed = ap (λ (y : Box). check_all c.check y rest) e ∙ still-pass c.key c.start c.check c.depends c.apply c.only x rest b v.ascends v.passed;
    is = ap (apply_all c.apply rest) e ∙ v.is;
  }

-- ---- each entry in its turn

-- a call's change of an entry is the action's
pub applied-is : {A : Type 0} (apply : A → Box → Box) (item : Entry → A) (d : Action) (primary : Key) (s : Bytes) → ((e : Entry) (b : Box) → apply (item e) b ≡ apply_entry d primary s e b)
    → (es : List Entry) (b : Box) → apply_all apply (map item es) b ≡ apply_all (apply_entry d primary s) es b
unfolding apply_all
applied-is apply item d primary s same [] b = refl
applied-is apply item d primary s same (e ∷ es) b = ap (apply_all apply (map item es)) (same e b) ∙ applied-is apply item d primary s same es (apply_entry d primary s e b)

module _ {A : Type 0} (c : Changes A) (item : Entry → A) (d : Action) (primary : Key) (s : Bytes) (same : (e : Entry) (b : Box) → c.apply (item e) b ≡ apply_entry d primary s e b) where
  -- what each entry asks of a box before which the others would pass, each asks in its turn
  module _ {want : Box} (one : (e : Entry) (rest : List A) (b : Box) → Applying c want b (item e ∷ rest) → EntryReady d primary s e b) where
    pub ready-all : (es : List Entry) (b : Box) → Applying c want b (map item es) → Ready d primary s es b
    unfolding Ready
    ready-all [] b v = tt
    ready-all (e ∷ es) b v = (one e (map item es) b v, ready-all es _ (applying-more v (sym (same e b))))

-- ---- `apply_all`

-- document 02, CR 7: after all entries each lock still starts above the floor
all_above : (floor : ℕ) (d : Action) (primary : Key) (s : Bytes) (es : List Entry) → (0 < length es → StartsAbove floor d) → (b : Box) → LocksAbove floor b → LocksAbove floor (apply_all (apply_entry d primary s) es b)
unfolding apply_all
all_above floor d primary s [] h b v = v
all_above floor d primary s (e ∷ es) h b v = go (e ∷ es) b v
  where
    go : (es : List Entry) (b : Box) → LocksAbove floor b → LocksAbove floor (apply_all (apply_entry d primary s) es b)
    go [] b v = v
    go (e ∷ es) b v = go es (apply_entry d primary s e b) (applied-above floor d primary (mutation_of s e) b (h (omega arith)) v)

-- the entries that are left are ready, lead to the box that is wanted, and have place
pub record Left (d : Action) (primary : Key) (want : Box) (s area : Bytes) (rest : List Entry) (cur : Store) : Type 0 where
  pub built : Built cur area
  pub ready : Ready d primary s rest (box_of cur area)
  pub is : apply_all (apply_entry d primary s) rest (box_of cur area) ≡ want
  pub room : cur.top + length rest * most_of d ≤ 131072

pub record Underway (d : Action) (primary : Key) (st : Store) (area s : Bytes) (es : List Entry) (i : ℕ) (area' : Bytes) (cur : Store) : Type 0 where
  pub left : Left d primary (apply_all (apply_entry d primary s) es (box_of st area)) s area' (drop i es) cur
  pub floor_is : cur.floor ≡ st.floor
  pub still : length es ≡ 0 → Untouched st area cur area'

module _ {d : Action} {primary : Key} {st : Store} {area s : Bytes} {es : List Entry} (a : ApplyAsks d primary st area s es) where
  module _ {i : ℕ} {area' : Bytes} {cur : Store} (v : Underway d primary st area s es i area' cur) where
    module _ (no : Entry) (more : i < length es) where
      abbrev e : Entry
      e = get_or es i no

      abbrev rest : List Entry
      rest = drop (i + 1) es

      here : Left d primary (apply_all (apply_entry d primary s) es (box_of st area)) s area' (e ∷ rest) cur
      here = subst (λ (l : List Entry). Left d primary (apply_all (apply_entry d primary s) es (box_of st area)) s area' l cur) (drop-cons es i no more ∙ ap (λ (m : ℕ). e ∷ drop m es) (sym (add-one i))) v.left

      room-here : cur.top + most_of d + length rest * most_of d ≤ 131072
      room-here = omega (arith, here.room, suc-mul (length rest) (most_of d))

      pub underway-at : EntryAt d primary cur area' s (get_or es i no)
      unfolding Ready
      underway-at = record { built = here.built; inside = all-at (EntryIn s) no es i a.listed.inside more; asks = here.ready.0 cur area' here.built refl (omega (arith, room-here)) }

      pub underway-more : (c : Change) {r : Store} {area'' : Bytes} → r ≡ changed cur c → Applied cur area' (apply_of d primary (mutation_of s (get_or es i no)) (box_of cur area')) (cur.top + most_of d) (changed cur c) area''
          → Underway d primary st area s es (i + 1) area'' r
      unfolding Ready apply_all
      underway-more c {r} {area''} q w =
          let l = subst (λ (x : Store). Applied cur area' (apply_of d primary (mutation_of s e) (box_of cur area')) (cur.top + most_of d) x area'') (sym q) w in
          let z : box_of r area'' ≡ apply_entry d primary s e (box_of cur area') = l.leaves.shown in
          record {
            left = record {
              built = l.leaves.built;
              ready = subst (Ready d primary s rest) (sym z) here.ready.1;
              is = ap (apply_all (apply_entry d primary s) rest) z ∙ here.is;
              room = omega (arith, room-here, l.leaves.top_most);
            };
            floor_is = ap (λ (x : Store). x.floor) q ∙ changed-floor cur c ∙ v.floor_is;
            still = λ z. absurd (omega arith);
          }

    pub underway-end : length es ≤ i → AllApplied d primary st area s es cur area'
    unfolding apply_all
    underway-end z =
        let is = subst (λ (l : List Entry). apply_all (apply_entry d primary s) l (box_of cur area') ≡ apply_all (apply_entry d primary s) es (box_of st area)) (drop_of_length-le es z) v.left.is in
        record {
          built = v.left.built;
          shown = is;
          floor_is = v.floor_is;
          above = above_same v.floor_is is (all_above st.floor d primary s es a.above (box_of st area) a.made.above);
          still = v.still;
        }
