-- The checking pass of a one-step batch: what is left of each step at an entry, one entry more, and the end; and each way out of the judging.
-- Assumes nothing.
use Prim.Native.Nat.{ℕ, ◌+◌, ◌≤◌, ◌<◌}
use native.Mathlib.Omega.{arith}
use mathlib.Core.Path.{◌≡◌, refl, sym, ap, ◌∙◌}
use mathlib.Core.Bool.{Bool, true, false, ◌&&◌}
use mathlib.Core.List.{List, map}
use Rattle.std.proofs.lemmas.List.{length-map}
use Rattle.changes.specs.Changes.{row_bytes}
use lib.ListN.{length, get_or}
use Rattle.forms.specs.Bytes.{Bytes}
use Rattle.forms.specs.Batch.{Mutation}
use Rattle.forms.specs.Places.{key_at, mutation_of, given_part, EntryIn, Listed}
use Rattle.forms.specs.declared.batch.Entry.{Entry}
use Rattle.rules.specs.Answers.{Answer, Accepted, No, ◌▸◌, need}
use Rattle.rules.specs.declared.room.Load.{Load}
use Rattle.rules.specs.Box.{Box}
use Rattle.rules.specs.Room.{fits}
use Rattle.rules.specs.declared.terms.CommitTerms.{CommitTerms}
use Rattle.rules.specs.OneStep.{arguments_step, all_applied, step_entries}
use Rattle.laws.proofs.StepLaws.{then-assoc}
use Rattle.laws.proofs.ChainLaws.{out, on, last_out, last_on, call-on}
use Rattle.store.specs.declared.table.Store.{Store}
use Rattle.store.specs.Made.{Made}
use Rattle.calls.specs.Weights.{Sums}
use Rattle.calls.proofs.EntryPartLaws.{key_short, row-short}
use Rattle.calls.proofs.SettledLaws.{then-refused}
use Rattle.calls.proofs.AnswerLaws.{then-end}
use Rattle.calls.proofs.CheckAllLaws.{added_small, Summing, summing_start, summing-more, summing-small, summing-few, summing-end}
use Rattle.calls.proofs.PassLaws.{Pass, pass-start, pass-more, pass-end}
use Rattle.calls.specs.Steps.{argument_step}
use Rattle.onesteps.specs.Checks.{all_new, adds_of, frees_of, CheckAsks, CheckedAt, Met, nothing_checked, Joined, AllChecked, left_by, unless_all, judged}
use Rattle.onesteps.specs.declared.checks.Tally.{Tally}

-- ---- what is left

pub record Meeting (h : CommitTerms) (b : Box) (all rest : List Mutation) (t : Met) : Type 0 where
  pub argument : arguments_step all ≡ t.argument ▸ arguments_step rest
  pub every : all_applied h b all ≡ t.tally.all && all_applied h b rest
  pub new : all_new h b all ≡ t.tally.none && all_new h b rest
  pub answer : step_entries h b all ≡ t.seen.answer ▸ step_entries h b rest
  pub added : Summing (adds_of h b) 765 all rest t.seen.weight.added
  pub freed : Summing (frees_of h b) 49152 all rest t.seen.weight.freed

-- one step more of a chain, and one test more
then-more : {all r m : Answer} (t x rest : Answer) → all ≡ t ▸ (x ▸ rest) → m ≡ x → r ≡ t ▸ m → all ≡ r ▸ rest
then-more t x rest v e j = v ∙ sym (then-assoc t x rest) ∙ ap (λ (y : Answer). y ▸ rest) (sym (j ∙ ap (λ (z : Answer). t ▸ z) e))

and-more : {all r m : Bool} (t x rest : Bool) → all ≡ t && (x && rest) → m ≡ x → r ≡ t && m → all ≡ r && rest
and-more true x rest v e j = v ∙ ap (λ (y : Bool). y && rest) (sym (j ∙ e))
and-more false x rest v e j = v ∙ ap (λ (y : Bool). y && rest) (sym j)

and-true : (a : Bool) → a && true ≡ a
and-true true = refl
and-true false = refl

abbrev pub MeetingAll : CommitTerms → Box → Bytes → List Entry → ℕ → Met → Type 0
MeetingAll h b s es i t = Pass (Meeting h b (map (mutation_of s) es)) (mutation_of s) s es i t

-- the parts of an entry
pub check-asks : {st : Store} {area s : Bytes} (e : Entry) → Made st area → EntryIn s e → CheckAsks st area (key_at s e) (row_bytes (given_part s e.row))
check-asks {s = s} e made i = record { made = made; key_short = key_short e i; row_short = row-short e i }

module _ (h : CommitTerms) (b : Box) {s : Bytes} {es : List Entry} where
  pub meeting-start : Listed s es → MeetingAll h b s es 0 nothing_checked
  unfolding ◌▸◌
  meeting-start l =
      let ms = map (mutation_of s) es in
      let few : length (map (mutation_of s) es) ≤ 32 = omega (arith, length-map es (mutation_of s), l.short) in
      pass-start (Meeting h b ms) (mutation_of s) l (record {
        argument = refl;
        every = refl;
        new = refl;
        answer = refl;
        added = summing_start (adds_of h b) 765 ms few refl;
        freed = summing_start (frees_of h b) 49152 ms few refl;
      })

  module _ {i : ℕ} {t : Met} (v : MeetingAll h b s es i t) where
    module _ (d : Entry) (more : i < length es) {m : Met} (here : CheckedAt h b (mutation_of s (get_or es i d)) m) where
      pub meeting-small : Sums t.seen.weight m.seen.weight
      meeting-small = record {
        added = summing-small v.left.added (omega arith);
        more_added = added_small (omega arith) here.light.added;
        freed = summing-small v.left.freed (omega arith);
        more_freed = added_small (omega arith) here.light.freed;
      }

      pub meeting-more : {r : Met} → Joined t m r → MeetingAll h b s es (i + 1) r
      unfolding arguments_step argument_step all_applied all_new step_entries
      meeting-more j = pass-more v d more (λ w. record {
        argument = then-more t.argument _ _ (w.argument ∙ ap (λ (x : Answer). t.argument ▸ x) (sym (then-assoc _ _ _))) here.argument_is j.argument_is;
        every = and-more t.tally.all _ _ w.every (ap (λ (x : Tally). x.all) here.tally_is) j.all_is;
        new = and-more t.tally.none _ _ w.new (ap (λ (x : Tally). x.none) here.tally_is) j.none_is;
        answer = then-more t.seen.answer _ _ w.answer here.answer_is j.answer_is;
        added = summing-more w.added here.added_is here.light.added j.added_is;
        freed = summing-more w.freed here.freed_is here.light.freed j.freed_is;
      })

    pub meeting-end : length es ≤ i → AllChecked h b (map (mutation_of s) es) t
    unfolding arguments_step all_applied all_new step_entries
    meeting-end z =
        let w = pass-end v z in
        record {
          argument_is = sym (w.argument ∙ then-end t.argument);
          all_is = sym (w.every ∙ and-true t.tally.all);
          none_is = sym (w.new ∙ and-true t.tally.none);
          answer_is = sym (w.answer ∙ then-end t.seen.answer);
          added_is = summing-end w.added;
          freed_is = summing-end w.freed;
          light = record { added = summing-few w.added; freed = summing-few w.freed };
        }

-- ---- the judging

module _ (t : Met) (load : Load) where
  abbrev last : Answer
  last = need (fits (left_by load t.seen.weight)) 11

  abbrev new-steps : Answer
  new-steps = need t.tally.none 9 ▸ t.seen.answer ▸ last

  pub judge-argument : (t.argument ≡ Accepted → ⊥) → t.argument ≡ judged t load
  judge-argument n = then-refused t.argument (unless_all t.tally.all new-steps) n

  module _ (p : t.argument ≡ Accepted) where
    by_all : {a : Answer} {x : Bool} → t.tally.all ≡ x → a ≡ unless_all x new-steps → a ≡ judged t load
    by_all {a} e q = call-on a t.argument _ _ refl p (q ∙ sym (ap (λ (x : Bool). unless_all x new-steps) e))

    pub judge-all : t.tally.all ≡ true → Accepted ≡ judged t load
    judge-all e = by_all e refl

    module _ (part : t.tally.all ≡ false) where
      pub judge-some : t.tally.none ≡ false → No 9 ≡ judged t load
      judge-some n = by_all part (out _ 9 _ n)

      module _ (fresh : t.tally.none ≡ true) where
        pub judge-entry : (t.seen.answer ≡ Accepted → ⊥) → t.seen.answer ≡ judged t load
        judge-entry n = by_all part (on _ 9 _ _ fresh (then-refused t.seen.answer last n))

        module _ (q : t.seen.answer ≡ Accepted) {left : Load} (e : left ≡ left_by load t.seen.weight) {u : Bool} (g : u ≡ fits left) where
          room : {a : Answer} → a ≡ last → a ≡ judged t load
          room {a} r = by_all part (on _ 9 _ _ fresh (call-on a t.seen.answer _ last refl q r))

          pub judge-full : u ≡ false → No 11 ≡ judged t load
          judge-full n = room (last_out _ 11 (sym (g ∙ ap fits e) ∙ n))

          pub judge-fits : u ≡ true → Accepted ≡ judged t load
          judge-fits n = room (last_on _ 11 (sym (g ∙ ap fits e) ∙ n))
