-- The checking pass by a check that is handed in: what it says of each entry, by the plan that it follows, and a plan that it follows.
-- Assumes nothing.
use Prim.Native.Nat.{ℕ, ◌<◌, ◌≤◌}
use mathlib.Core.Bool.{Bool, true, false}
use mathlib.Core.Path.{◌≡◌, refl, ◌∙◌}
use mathlib.Core.List.{List, map}
use lib.ListN.{length, get_or}
use Rattle.std.specs.Prelude.{Result, Ok}
use Rattle.seqs.proofs.Alls.{all-at, all-weaken}
use Rattle.forms.specs.Bytes.{Bytes}
use Rattle.forms.specs.Batch.{ascend}
use Rattle.forms.specs.Places.{EntryIn, InForm, Item, item_key, item_of}
use Rattle.forms.specs.declared.batch.Entry.{Entry}
use Rattle.forms.proofs.DecodeLaws.{mutations-by-keys}
use Rattle.rules.specs.declared.answers.Refusal.{Refusal}
use Rattle.rules.specs.declared.room.Load.{Load}
use Rattle.rules.specs.Box.{Box}
use Rattle.store.specs.declared.table.Store.{Store}
use Rattle.store.specs.View.{box_of}
use Rattle.calls.specs.Entries.{AllAsks}
use Rattle.calls.specs.Weights.{Sums, LeftAsks, Steps, checked, EntryChecked}
use Rattle.calls.specs.Passes.{Weighed, Plan, Told, Follows}
use Rattle.calls.specs.declared.weights.Weight.{Weight}
use Rattle.calls.proofs.SeenLaws.{SeeingAll, seeing-small, seeing-end}
use Rattle.calls.proofs.RoomJudgeLaws.{judge-asks}

-- ---- what the check says of each entry

-- what is left to check, and what the entries before it add and free, by any plan that the check follows
abbrev pub EachSeen : Load → List Entry → (Entry → Result Weight Refusal → Type 0) → ℕ → Weight → Type 0
EachSeen load es post i sum = (p : Plan) → Follows p load es post → SeeingAll p.steps (item_of p.rows p.batch) p.box p.batch es i sum

module _ {load : Load} {es : List Entry} {post : Entry → Result Weight Refusal → Type 0} where
  pub each-checked : {p : Plan} → Follows p load es post → (d : Entry) {i : ℕ} → i < length es → {r : Result Weight Refusal} → post (get_or es i d) r → EntryChecked p.steps p.box (item_of p.rows p.batch (get_or es i d)) (checked r)
  each-checked {p} f d {i} more {r} h = all-at (Told p post) d es i f.each more r h

  -- where it follows a plan the weights are small
  pub each-small : {i : ℕ} {sum : Weight} → EachSeen load es post i sum → (d : Entry) → i < length es → {w : Weight} → post (get_or es i d) (Ok w)
      → (p : Plan) × Follows p load es post → Sums sum w
  each-small v d more h q = seeing-small (v q.0 q.1) d more (each-checked q.1 d more h) q.1.add_small q.1.free_small

  -- and what goes is in the sum
  pub each-left : {i : ℕ} {sum : Weight} → EachSeen load es post i sum → length es ≤ i → (p : Plan) × Follows p load es post → LeftAsks load sum
  each-left v z q = judge-asks q.1.weighed _ q.1.ascends q.1.tallied refl (seeing-end (v q.0 q.1) z) q.1.add_small q.1.fit

-- ---- a plan for the entries of a batch in form

-- their keys ascend
in-order : (rows : Bool) {s : Bytes} {es : List Entry} → InForm s es → ascend (item_key rows) (map (item_of rows s) es) ≡ true
in-order true {s} {es} f = mutations-by-keys s es ∙ f.ascends
in-order false f = f.ascends

module _ (rows : Bool) {c : Steps (Item rows)} {apply : Item rows → Box → Box} (w : Weighed c (item_key rows) apply) (add_small : c.add ≤ 65887) (free_small : c.free ≤ 65887) where
  abbrev pub plan : Store → Bytes → Bytes → Plan
  plan st area s = record { rows = rows; batch = s; steps = c; apply = apply; box = box_of st area }

  pub follows : {st : Store} {area s : Bytes} {es : List Entry} → AllAsks st area s es → {post : Entry → Result Weight Refusal → Type 0} → ((e : Entry) → EntryIn s e → Told (plan st area s) post e) → Follows (plan st area s) st.load es post
  follows {st} {area} {s} {es} a {post} each = record {
    listed = a.form.listed;
    ascends = in-order rows a.form;
    weighed = w;
    add_small = add_small;
    free_small = free_small;
    tallied = a.made.built.kept;
    fit = a.made.fit;
    each = all-weaken (EntryIn s) (Told (plan st area s) post) es each a.form.listed.inside;
  }
