-- The batch of a prewrite: what its entries add, what each asks of the store as it is then, and the definition by one entry's steps.
-- Assumes nothing.
use Prim.Native.Nat.{ℕ, ◌+◌, ◌≤◌, ◌<◌}
use native.Mathlib.Omega.{arith}
use mathlib.Core.Path.{◌≡◌, refl, sym, ap, ap₂, ◌∙◌, subst}
use mathlib.Core.List.{List, [], ◌∷◌, map}
use mathlib.Core.Option.{Option, none, some}
use lib.Dec.{ltb}
use Rattle.forms.specs.Bytes.{Bytes}
use Rattle.forms.specs.Key.{Key}
use Rattle.forms.specs.Row.{Row}
use Rattle.forms.specs.Batch.{Mutation, key_inside}
use Rattle.forms.specs.Places.{mutation_of, given_part, InForm}
use Rattle.forms.specs.declared.batch.Entry.{Entry}
use Rattle.forms.proofs.DecodeLaws.{mutations-by-keys}
use Rattle.rules.specs.Answers.{Answer, Accepted, ◌▸◌, need}
use Rattle.rules.specs.declared.room.Load.{Load}
use Rattle.rules.specs.Box.{Box, Lock, lock_of}
use Rattle.rules.specs.Room.{load_of, room_for, Fits}
use Rattle.rules.specs.Calls.{settle, non_empty}
use Rattle.rules.specs.Prewrite.{PrewriteTerms, prewrite_terms_step, prewrite_entry, prewrite_entries, unless_locked, lock_line, apply_prewrite, apply_prewrites, prewrite_room, prewrite_steps, prewrite_all}
use Rattle.rules.proofs.FloorLaws.{prewrite-last}
use Rattle.laws.specs.Adds.{no_load, plus, sum_loads, lock_load, of_row, prewrite_adds}
use Rattle.laws.proofs.LoadLaws.{none-plus}
use Rattle.laws.proofs.BatchLaws.{check_all, apply_all}
use Rattle.laws.proofs.PrewriteLaws.{prewrite-passed, prewrite-depends, prewrite-only, prewrite_entries-all, apply_prewrites-all}
use Rattle.laws.proofs.PrewriteLoad.{prewrites-load}
use Rattle.store.specs.View.{box_of}
use Rattle.actions.specs.declared.action.Action.{Action}
use Rattle.actions.specs.declared.action.Action.TheVariants.{Prewrite}
use Rattle.calls.specs.Passes.{EntryReady, Ready, Weighed}
use Rattle.calls.proofs.EntryPartLaws.{row_fits}
use Rattle.calls.proofs.AnswerLaws.{terms-split}
use Rattle.calls.proofs.ApplyAllLaws.{Changes, Applying, applying-passed, ready-all}
use Rattle.calls.proofs.RoomJudgeLaws.{applying-free}
use Rattle.calls.proofs.DoneLaws.{ByEntries}
use Rattle.prewrites.specs.declared.heads.LockTerms.{LockTerms}
use Rattle.prewrites.specs.Checks.{with_primary, steps_of}

-- ---- what an entry adds

-- nothing is freed
none-freed : (ms : List Mutation) → sum_loads (λ (m : Mutation). no_load) ms ≡ no_load
unfolding sum_loads
none-freed [] = refl
none-freed (m ∷ ms) = ap (plus no_load) (none-freed ms)

pub weighed : (h : PrewriteTerms) → Weighed (steps_of h) key_inside (apply_prewrite h)
unfolding prewrite_adds apply_prewrite unless_locked of_row
weighed h = record {
  load = λ ms b a o.
      sym (ap (λ (l : Load). plus l (load_of (apply_all (apply_prewrite h) ms b))) (none-freed ms) ∙ none-plus _ ∙ ap load_of (sym (apply_prewrites-all h ms b)) ∙ prewrites-load h ms b a);
  replay = λ m b e. replay m b (lock_of m.key b.lines) e;
  lines = λ m b. omega arith;
  locks = λ m b. omega (arith, locks m (lock_of m.key b.lines));
}
  where
    added : Mutation → Load
    added m = plus (lock_load m.key h.primary) (of_row m.key m.row)

    replay : (m : Mutation) (b : Box) (o : Option Lock) → (unless_locked o (added m) no_load).lines ≡ 0 → unless_locked o (lock_line h m b) b ≡ b
    replay m b none q = absurd (omega arith)
    replay m b (some l) q = refl

    locks : (m : Mutation) (o : Option Lock) → (unless_locked o (added m) no_load).locks ≤ (unless_locked o (added m) no_load).lines
    locks m none = row-locks m.row
      where
        row-locks : (r : Option Row) → 1 + (of_row m.key r).locks ≤ 1 + (of_row m.key r).lines
        row-locks none = omega arith
        row-locks (some r) = omega arith
    locks m (some l) = omega arith

-- an entry that is not yet locked adds a line
one_more : (h : PrewriteTerms) (b : Box) (m : Mutation) → lock_of m.key b.lines ≡ none → 0 < (prewrite_adds h b m).lines
unfolding prewrite_adds unless_locked
one_more h b m e = rw e (omega arith)

-- ---- one entry after the other

abbrev pub changes_of : PrewriteTerms → Changes Mutation
changes_of h = record { key = key_inside; start = h.start; check = prewrite_entry h; apply = apply_prewrite h; depends = prewrite-depends h; only = prewrite-only h h.start }

abbrev pub deed_of : LockTerms → Action
deed_of t = Prewrite t.txn t.start t.ttl

module _ (t : LockTerms) (primary : Key) (s : Bytes) where
  abbrev h : PrewriteTerms
  h = with_primary t primary

  -- what one entry asks, where it and those after it would pass
  entry_ready : prewrite_terms_step 0 (with_primary t primary) ≡ Accepted → {want : Box} → Fits (load_of want) → (e : Entry) (rest : List Mutation) (b : Box) → Applying (changes_of (with_primary t primary)) want b (mutation_of s e ∷ rest) → EntryReady (deed_of t) primary s e b
  entry_ready p {want} f e rest b v st area built q room = record {
    built = built;
    floor = 0;
    head = p;
    passed = passed;
    row_fits = row_fits (given_part s e.row) (prewrite-passed h (box_of st area) _ passed).row;
    slot_free = λ z. applying-free (weighed h) here built.kept f (one_more h (box_of st area) (mutation_of s e) z);
    area_room = room;
  }
    where
      here : Applying (changes_of h) want (box_of st area) (mutation_of s e ∷ rest)
      here = subst (λ (x : Box). Applying (changes_of h) want x (mutation_of s e ∷ rest)) (sym q) v

      passed : prewrite_entry h (box_of st area) (mutation_of s e) ≡ Accepted
      passed = applying-passed here

  pub locks-ready : {es : List Entry} (b : Box) → prewrite_terms_step 0 (with_primary t primary) ≡ Accepted → InForm s es → check_all (prewrite_entry (with_primary t primary)) b (map (mutation_of s) es) ≡ Accepted
      → Fits (load_of (apply_all (apply_prewrite (with_primary t primary)) (map (mutation_of s) es) b)) → Ready (deed_of t) primary s es b
  locks-ready {es} b p form c f =
      ready-all (changes_of h) (mutation_of s) (deed_of t) primary s (λ e x. refl) (entry_ready p f) es b (record { ascends = mutations-by-keys s es ∙ form.ascends; passed = c; is = refl })

-- ---- the call

-- the definition, by the steps of one entry
pub by_entries : (floor : ℕ) (h : PrewriteTerms) → ByEntries (prewrite_entry h) (apply_prewrite h) (prewrite_terms_step 0 h) (need (ltb floor h.start) 14) (prewrite_all floor h)
unfolding prewrite_all prewrite_steps prewrite_room
by_entries floor h = record {
  is = λ ms b.
      ap (λ (x : Answer). settle (need (non_empty ms) 5 ▸ x) (apply_prewrites h ms b) b) (terms-split (prewrite_terms_step 0 h) (need (ltb floor h.start) 14) (prewrite-last floor h) (prewrite_entries h b ms ▸ need (room_for (apply_prewrites h ms b)) 11))
      ∙ ap₂ (λ (x : Answer) (c : Box). settle (need (non_empty ms) 5 ▸ prewrite_terms_step 0 h ▸ need (ltb floor h.start) 14 ▸ x ▸ need (room_for c) 11) c b) (prewrite_entries-all h b ms) (apply_prewrites-all h ms b);
}
