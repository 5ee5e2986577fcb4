-- Demand 3 carried to the store, by the calls' promises alone. Assumes nothing.
use Prim.Native.Nat.{ℕ, ◌+◌}
use mathlib.Core.Path.{◌≡◌, refl, sym, ap, ap₂, ◌∙◌, subst}
use mathlib.Core.Bool.{true, true≢false}
use mathlib.Core.List.{List, [], ◌∷◌}
use mathlib.Core.Option as option
use mathlib.Core.Option.{Option, some}
use lib.ListN.{length}
use Rattle.forms.specs.Bytes.{Bytes}
use Rattle.rules.specs.Answers.{Accepted}
use Rattle.rules.specs.declared.room.Load.{Load}
use Rattle.rules.specs.Box.{Box}
use Rattle.rules.specs.Room.{load_of}
use Rattle.rules.specs.Calls.{State, fresh_state, Done, on_floor}
use Rattle.rules.specs.Call.{Changing, Call, perform}
use Rattle.rules.specs.Image.{Image, image}
use Rattle.rules.specs.Restore.{good_image, healthy_image, state_of, restore_steps, restore_to, restore}
use Rattle.laws.proofs.StepLaws.{passed}
use Rattle.laws.proofs.SettleLaws.{settle_state-answer, settle_state-new}
use Rattle.ledger.specs.Ledger as ledger
use Rattle.ledger.specs.Ledger.{Past, then, after, empty, different_pairs}
use Rattle.ledger.specs.Restored.{restored}
use Rattle.ledger.proofs.Demand3.{demand3}
use Rattle.ledger.proofs.Restored.{demand3-restored}
use Rattle.store.specs.declared.table.Store.{Store}
use Rattle.store.specs.View.{state_shown}
use Rattle.calls.specs.Settled.{Changed, Settled}
use Rattle.demands.specs.Calls as calls
use Rattle.demands.specs.Calls.{a_store, a_change, starting, calling, gives, Lent, box_in, state_in, Given, started, changed, stepped, answer_in, Kept}
use Rattle.demands.specs.Demands as demands
use Rattle.demands.specs.Demands.{changing, Ran, none, next, Shows}
use Rattle.demands.proofs.Stays.{stays-made}

-- ---- one call: the store shows the box and the floor that the definition leaves

pub settled-shows : {st : Store} {area : Bytes} {d : Done} {r : Changed} {area' : Bytes} → Settled st area d r area' → state_shown r.store area' ≡ (on_floor st.floor d).state
settled-shows s = ap₂ (λ (b : Box) (f : ℕ). record { box = b; floor = f }) s.shown s.floor_is

shows-next : (c : Changing) (w : Lent) (g : Given (gives (changing c))) → Kept w (changing c) g → state_in (calls.after w g) ≡ (perform c (state_in w)).state
unfolding perform
shows-next (Changing.Prewrite h s) w (changed r area) k = settled-shows k
shows-next (Changing.Commit h s) w (changed r area) k = settled-shows k
shows-next (Changing.Rollback txn start s) w (changed r area) k = settled-shows k
shows-next (Changing.OneStep h s) w (stepped r area) k = settled-shows k.settled
shows-next (Changing.Collect f) w (changed r area) k = k.replaced.shown

-- ---- a sequence

pub ran-shows : (cs : List Changing) (p : Past) {w w' : Lent} → Ran cs w w' → Shows p w → Shows (after cs p) w'
unfolding after then
ran-shows [] p (none _) v = v
ran-shows (c ∷ cs) p (next _ _ w g w' k run) v =
    ran-shows cs (then c p) run (record { made = stays-made w (changing c) g k v.made; shown = shows-next c w g k ∙ ap (λ (st : State). (perform c st).state) v.shown })

-- from what `fresh` gave, box and floor after any sequence of calls are the definition's
pub shows : {cs : List Changing} (w : Lent) (g : Given a_store) {w' : Lent} → Kept w starting g → Ran cs (calls.after w g) w' → Shows (after cs empty) w'
unfolding empty fresh_state
shows {cs} w (started st) f run = ran-shows cs empty run (record { made = f.made; shown = f.shown })

-- an image that restore accepts, and its state
pub record Taken (s : Bytes) (st : State) : Type 0 where
  pub img : Image
  pub is : image s ≡ some img
  pub good : good_image img ≡ true
  pub healthy : healthy_image img ≡ true
  pub shown : (restore s st).state ≡ state_of img

pub taken : (s : Bytes) (st : State) → (restore s st).answer ≡ Accepted → Taken s st
unfolding restore restore_to restore_steps
taken s st p = go (image s) refl p
  where
    go : (o : Option Image) → image s ≡ o → (restore_to o st).answer ≡ Accepted → Taken s st
    go option.none e q = absurd (true≢false (cc))
    go (some i) e q =
        let t : restore_steps i ≡ Accepted = sym (settle_state-answer _ _ st) ∙ q in
        record { img = i; is = e; good = search passed; healthy = search passed; shown = rw e (settle_state-new (state_of i) st t) }

-- ---- demand 3, of the store

lines_of : (b : Box) → (load_of b).lines ≡ length b.lines
unfolding load_of
lines_of b = refl

-- what holds of the definitions' box holds of the store that shows it; and the store's tally counts the box's lines
carried : (p : Past) (w : Lent) → Shows p w → ledger.Demand3 p → demands.Demand3 p w
carried p w v d = record {
  demand = subst (λ (st : State). ledger.Demand3 (record { box = st.box; floor = st.floor; log = p.log; dropped = p.dropped })) (sym v.shown) d;
  tally =
      ap (λ (n : ℕ). n + different_pairs p.dropped) (ap (λ (l : Load). l.lines) v.made.built.kept.load_is ∙ lines_of (box_in w) ∙ ap (λ (st : State). length st.box.lines) v.shown)
      ∙ d.lines;
}

-- from a fresh store
pub demand3-carried : {cs : List Changing} (w : Lent) (g : Given a_store) {w' : Lent} → Kept w starting g → Ran cs (calls.after w g) w' → demands.Demand3 (after cs empty) w'
demand3-carried {cs} w g {w'} f run = carried (after cs empty) w' (shows w g f run) (demand3 cs)

-- from a store that an accepted restore gave
pub restored-carried : {cs : List Changing} (w : Lent) (s : Bytes) (g : Given a_change) {w' : Lent} → Kept w (calling (Call.Restore s)) g → answer_in w g ≡ Accepted → Ran cs (calls.after w g) w'
    → (i : Image) × (image s ≡ some i) × demands.Demand3 (after cs (restored i)) w'
restored-carried {cs} w s (changed r area) {w'} k p run =
    let t = taken s (state_in w) (sym k.answer_is.case_is ∙ p) in
    let v = ran-shows cs (restored t.img) run (record { made = k.made; shown = k.shown ∙ t.shown ∙ (unfold state_of in refl) }) in
    (t.img, t.is, carried (after cs (restored t.img)) w' v (demand3-restored t.img t.good t.healthy cs))
