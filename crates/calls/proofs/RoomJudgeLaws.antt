-- What the checks of all entries come to, for every call that tells what an entry adds and frees: the room that it would leave, and whether
-- its box becomes another one.
-- Assumes nothing.
use Prim.Native.Nat.{◌+◌, ◌≤◌, ◌<◌}
use native.Mathlib.Omega.{arith}
use mathlib.Core.Path.{◌≡◌, refl, sym, ap, ◌∙◌}
use mathlib.Core.Bool.{Bool, true, false, ◌&&◌, false≢true}
use mathlib.Core.List.{List, [], ◌∷◌}
use lib.Dec.{ltb}
use borrow.Author.Tests.{ltb-true, ltb-false}
use Rattle.forms.specs.Key.{Key}
use Rattle.forms.specs.Batch.{ascend}
use Rattle.rules.specs.Answers.{Answer, Accepted, ◌▸◌, need}
use Rattle.std.specs.Prelude.{Ok, Err}
use Rattle.rules.specs.declared.answers.Refusal.{Refusal}
use Rattle.rules.specs.declared.answers.Refusal.TheVariants.{NoRoom}
use Rattle.rules.specs.Outcomes.{refusal}
use Rattle.rules.proofs.OutcomeLaws.{refusal-not, refusal-first}
use Rattle.rules.specs.declared.room.Load.{Load}
use Rattle.rules.specs.Box.{Box}
use Rattle.rules.specs.Room.{load_of, fits, room_for, Fits}
use Rattle.laws.specs.Adds.{sum_loads}
use Rattle.laws.proofs.StepLaws.{and_left, and_right}
use Rattle.laws.proofs.LoadLaws.{load-eq, load_fields}
use Rattle.laws.proofs.BatchLaws.{check_all, apply_all}
use Rattle.store.specs.Made.{Tallied}
use Rattle.calls.specs.Settled.{is_accepted}
use Rattle.calls.specs.Weights.{LeftAsks, Steps, checked, AllChecked}
use Rattle.calls.specs.Passes.{BatchVerdict, verdict, left_by, RoomJudged, Judged, Weighed}
use Rattle.calls.specs.declared.weights.Weight.{Weight}
use Rattle.calls.proofs.SettledLaws.{is-accepted}
use Rattle.calls.proofs.ApplyAllLaws.{Changes, Applying}

-- ---- a refusal

refused-judged : {A : Type 0} {late : Answer} {check : Box → A → Answer} {apply : A → Box → Box} {b : Box} {xs : List A} (why : Refusal)
    → refusal why ≡ late ▸ check_all check b xs ▸ need (room_for (apply_all apply xs b)) 11 → Judged late check apply b xs (verdict (Err why))
refused-judged why is = record { answer_is = is; stays = λ _ p. absurd (refusal-not why p); passes = λ z. absurd (false≢true z); moves = λ z _. false≢true z }

-- 14
pub late-judged : {A : Type 0} {late : Answer} {check : Box → A → Answer} {apply : A → Box → Box} {b : Box} {xs : List A} (why : Refusal) → refusal why ≡ late → Judged late check apply b xs (verdict (Err why))
late-judged {check = check} {apply} {b} {xs} why e = refused-judged why (sym (refusal-first why _) ∙ ap (λ (x : Answer). x ▸ check_all check b xs ▸ need (room_for (apply_all apply xs b)) 11) e)

-- ---- what an entry adds and frees

module _ {A : Type 0} {c : Steps A} {key : A → Key} {apply : A → Box → Box} (w : Weighed c key apply) where
  all_lines : (xs : List A) (b : Box) → (sum_loads (c.frees b) xs).lines ≤ (sum_loads (c.adds b) xs).lines
  unfolding sum_loads
  all_lines [] b = omega arith
  all_lines (x ∷ xs) b = omega (arith, w.lines x b, all_lines xs b)

  all-locks : (xs : List A) (b : Box)
      → (sum_loads (c.frees b) xs).lines + (sum_loads (c.frees b) xs).lines + (sum_loads (c.adds b) xs).locks ≤ (sum_loads (c.adds b) xs).lines + (sum_loads (c.frees b) xs).locks
  unfolding sum_loads
  all-locks [] b = omega arith
  all-locks (x ∷ xs) b = omega (arith, w.locks x b, all-locks xs b)

  replays : (xs : List A) (b : Box) → (sum_loads (c.adds b) xs).lines ≡ 0 → apply_all apply xs b ≡ b
  unfolding sum_loads apply_all
  replays [] b e = refl
  replays (x ∷ xs) b e =
      let z : (c.adds b x).lines ≡ 0 = omega arith in
      let y : (sum_loads (c.adds b) xs).lines ≡ 0 = omega arith in
      ap (apply_all apply xs) (w.replay x b z) ∙ replays xs b y

  -- ---- the whole call

  module _ (xs : List A) {b : Box} {load : Load} (a : ascend key xs ≡ true) (k : Tallied b load) {late : Answer} (on : late ≡ Accepted) where
    after : (v : Answer) → v ≡ late ▸ v
    unfolding ◌▸◌
    after v = ap (λ (x : Answer). x ▸ v) (sym on)

    moved : apply_all apply xs b ≡ b → (sum_loads (c.adds b) xs).lines ≡ 0
    moved e =
        let p = load_fields (w.load xs b a k.sorted) in
        let q = load_fields (ap load_of e) in
        omega (arith, p.lines, p.locks, q.lines, q.locks, all-locks xs b)

    -- an entry is refused
    pub all-refused : (why : Refusal) → AllChecked c b xs (checked (Err why)) → Judged late c.check apply b xs (verdict (Err why))
    all-refused why r = refused-judged why (sym (refusal-first why _) ∙ ap (λ (x : Answer). x ▸ need (room_for (apply_all apply xs b)) 11) r.answer_is ∙ after _)

    -- all pass
    module _ {s : Weight} (r : AllChecked c b xs (record { answer = Accepted; weight = s })) where
      pub judge-asks : c.add ≤ 65887 → Fits load → LeftAsks load s
      judge-asks low f =
          let p = load_fields (w.load xs b a k.sorted) in
          let y = load_fields k.load_is in
          let u = load_fields (r.added_is refl) in
          let v = load_fields (r.freed_is refl) in
          let z = r.light.added in
          record { load_small = omega (arith, f); added_small = omega (arith, z, z.bytes); freed_there = omega arith }

      left_is : left_by load s ≡ load_of (apply_all apply xs b)
      left_is =
          let p = load_fields (w.load xs b a k.sorted) in
          let y = load_fields k.load_is in
          let u = load_fields (r.added_is refl) in
          let v = load_fields (r.freed_is refl) in
          load-eq _ _ (omega arith)

      pub all-judged : {v : BatchVerdict} → RoomJudged s load v → Judged late c.check apply b xs v
      unfolding room_for ◌▸◌
      all-judged {v} j = record {
        answer_is = j.answer_is ∙ ap (λ (l : Load). need (fits l) 11) left_is ∙ ap (λ (x : Answer). x ▸ need (fits (load_of (apply_all apply xs b))) 11) r.answer_is ∙ after _;
        stays = λ e p.
            let low : ltb 0 s.added.lines ≡ false = sym (j.moves_is ∙ ap (λ (x : Answer). is_accepted x && ltb 0 s.added.lines) p) ∙ e in
            let u = load_fields (r.added_is refl) in
            replays xs b (omega (arith, ltb-false 0 s.added.lines low));
        passes = λ e. is-accepted v.answer (sym (and_left _ _ (sym j.moves_is ∙ e))) refl;
        moves = λ e q.
            let u = load_fields (r.added_is refl) in
            omega (arith, moved q, ltb-true 0 s.added.lines (and_right (is_accepted v.answer) _ (sym j.moves_is ∙ e)));
      }

-- ---- in the applying pass

-- where more lines come than go a slot is free
pub applying-free : {A : Type 0} {c : Steps A} {k : Changes A} → Weighed c k.key k.apply → {want b : Box} {x : A} {rest : List A} → Applying k want b (x ∷ rest) → {load : Load} → Tallied b load → Fits (load_of want)
    → (c.frees b x).lines < (c.adds b x).lines → load.lines < 1024
unfolding sum_loads
applying-free w {b = b} {rest = rest} here k f h =
    let p = load_fields (w.load _ b here.ascends k.sorted) in
    let q = load_fields (ap load_of here.is) in
    let z = load_fields k.load_is in
    omega (arith, p.lines, q.lines, z.lines, f.lines, all_lines w rest b)

-- ---- `judge`

module _ (sum : Weight) (load : Load) {l : Load} (q : l ≡ left_by load sum) {f : Bool} (g : f ≡ fits l) where
  room-is : need f 11 ≡ need (fits (left_by load sum)) 11
  room-is = ap (λ (b : Bool). need b 11) (g ∙ ap fits q)

  pub judge-full : f ≡ false → RoomJudged sum load (verdict (Err NoRoom))
  unfolding need
  judge-full x = record { answer_is = ap (λ (b : Bool). need b 11) (sym x) ∙ room-is; moves_is = refl }

  pub judge-passed : f ≡ true → RoomJudged sum load (verdict (Ok (ltb 0 sum.added.lines)))
  unfolding need
  judge-passed x = record { answer_is = ap (λ (b : Bool). need b 11) (sym x) ∙ room-is; moves_is = refl }
