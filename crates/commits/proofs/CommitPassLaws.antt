-- The two passes over a batch of keys, and what the call's ways out say from its keys on.
-- Assumes nothing.
use Prim.Native.Nat.{ℕ, ◌+◌, ◌≤◌, ◌<◌}
use native.Mathlib.Omega.{arith}
use mathlib.Core.Path.{◌≡◌, refl, sym, ap, ap₂, ◌∙◌}
use mathlib.Core.Bool.{Bool, true, false, ◌&&◌, ◌||◌, or-false, or_assoc}
use mathlib.Core.List.{List, ◌∷◌, map}
use lib.Dec.{ltb}
use lib.ListN.{length, get_or, drop}
use Rattle.forms.specs.Bytes.{Bytes}
use Rattle.forms.specs.Key.{Key}
use Rattle.forms.specs.Places.{key_at, Listed, InForm}
use Rattle.forms.specs.declared.batch.Entry.{Entry}
use Rattle.std.specs.Prelude.{Ok, Err}
use Rattle.rules.specs.Answers.{Answer, Accepted, ◌▸◌, need}
use Rattle.rules.specs.declared.answers.Refusal.{Refusal}
use Rattle.rules.specs.Outcomes.{refusal}
use Rattle.rules.proofs.OutcomeLaws.{refusal-not}
use Rattle.rules.specs.Box.{Box}
use Rattle.rules.specs.Room.{load_of}
use Rattle.rules.specs.Calls.{settle}
use Rattle.rules.specs.declared.terms.CommitTerms.{CommitTerms}
use Rattle.rules.specs.Commit.{commit_terms_step, commit_key, commit_keys, apply_commit, apply_commits}
use Rattle.laws.proofs.StepLaws.{then-right, and_left, and_right}
use Rattle.laws.proofs.SettleLaws.{settle-old, settle-new}
use Rattle.laws.proofs.LoadLaws.{load_fields}
use Rattle.laws.proofs.CommitLaws.{commit-depends, commit-only, commits-less, commit_keys-all, apply_commits-all}
use Rattle.store.specs.declared.table.Store.{Store}
use Rattle.store.specs.View.{box_of}
use Rattle.actions.specs.declared.action.Action.TheVariants.{Commit}
use Rattle.calls.specs.Settled.{is_accepted, Settled}
use Rattle.calls.specs.Entries.{AllAsks}
use Rattle.calls.specs.Passes.{BatchVerdict, verdict, EntryReady, Ready, ApplyAsks, AllApplied, SettledBy}
use Rattle.calls.proofs.SettledLaws.{is-accepted, is-refusal, first-out, settled_same, settled-new}
use Rattle.calls.proofs.PassLaws.{Pass, pass-start, pass-here, pass-more, pass-end}
use Rattle.calls.proofs.CheckAllLaws.{Walking, walking_start, walking-more, walking-out, walking-end}
use Rattle.calls.proofs.DoneLaws.{settled-by}
use Rattle.calls.proofs.ApplyAllLaws.{Changes, Applying, applying-passed, applied-is, ready-all}
use Rattle.commits.specs.Checks.{is_new, some_new, Judged}
use Rattle.commits.specs.Passes.{floor_keys, all_done}
use Rattle.commits.proofs.NewLaws.{all_old, some-fewer}
use Rattle.commits.proofs.CommitKeyLaws.{refused-judged}

-- ---- 14

pub late-judged : {late : Answer} (a : Answer) {new : Bool} (why : Refusal) → refusal why ≡ late → Judged (late ▸ a) new (verdict (Err why))
late-judged a why e = refused-judged why (first-out why a e)

-- it does not come
after : {late a : Answer} → late ≡ Accepted → a ≡ late ▸ a
unfolding ◌▸◌
after {a = a} e = ap (λ (x : Answer). x ▸ a) (sym e)

-- ---- the checking pass: the keys that are left, and whether one was new

pub record Checking (h : CommitTerms) (b : Box) (all rest : List Key) (moves : Bool) : Type 0 where
  pub walk : Walking (commit_key h) b all rest
  pub new : some_new h b all ≡ moves || some_new h b rest

abbrev pub CheckingAll : CommitTerms → Box → Bytes → List Entry → ℕ → Bool → Type 0
CheckingAll h b s es i moves = Pass (Checking h b (map (key_at s) es)) (key_at s) s es i moves

pub checking-start : (h : CommitTerms) (b : Box) {s : Bytes} {es : List Entry} → Listed s es → CheckingAll h b s es 0 false
checking-start h b {s} {es} a = pass-start (Checking h b (map (key_at s) es)) (key_at s) a (record { walk = walking_start (commit_key h) b (map (key_at s) es); new = refl })

module _ {h : CommitTerms} {b : Box} {s : Bytes} {es : List Entry} {i : ℕ} {moves : Bool} (v : CheckingAll h b s es i moves) where
  abbrev all : List Key
  all = map (key_at s) es

  module _ (d : Entry) (more : i < length es) where
    pub checking-more : {new : Bool} → Judged (commit_key h b (key_at s (get_or es i d))) (is_new h b (key_at s (get_or es i d))) (verdict (Ok new)) → {t : Bool} → t ≡ moves || new → CheckingAll h b s es (i + 1) t
    unfolding some_new
    checking-more k e =
        let next : Bool = is_new h b (key_at s (get_or es i d)) in
        let later : Bool = some_new h b (map (key_at s) (drop (i + 1) es)) in
        pass-more v d more (λ w. record {
          walk = walking-more w.walk k.answer_is refl;
          new = w.new ∙ sym (or_assoc moves next later) ∙ ap (λ (x : Bool). x || later) (sym (e ∙ ap (λ (x : Bool). moves || x) k.moves_is));
        })

    pub checking-out : (why : Refusal) → Judged (commit_key h b (key_at s (get_or es i d))) (is_new h b (key_at s (get_or es i d))) (verdict (Err why)) → {late : Answer} → late ≡ Accepted
        → Judged (late ▸ commit_keys h b (map (key_at s) es)) (some_new h b (map (key_at s) es)) (verdict (Err why))
    checking-out why k p = refused-judged why (walking-out (pass-here v d more).walk k.answer_is (refusal-not why) ∙ sym (commit_keys-all h b all) ∙ after p)

  pub checking-end : length es ≤ i → {late : Answer} → late ≡ Accepted → Judged (late ▸ commit_keys h b (map (key_at s) es)) (some_new h b (map (key_at s) es)) (verdict (Ok moves))
  unfolding some_new
  checking-end z p =
      let k = pass-end v z in
      record { answer_is = walking-end k.walk ∙ sym (commit_keys-all h b all) ∙ after p; moves_is = sym (k.new ∙ or-false moves) }

-- ---- the applying pass

abbrev changes_of : CommitTerms → Changes Key
changes_of h = record { key = λ (k : Key). k; start = h.start; check = commit_key h; apply = apply_commit h; depends = commit-depends h; only = commit-only h h.start }

-- what each key asks in its turn, where all would pass
pub ends-ready : (h : CommitTerms) (primary : Key) {s : Bytes} {es : List Entry} (b : Box) → commit_terms_step 0 h ≡ Accepted → InForm s es → commit_keys h b (map (key_at s) es) ≡ Accepted → Ready (Commit h) primary s es b
ends-ready h primary {s} {es} b p form c =
    ready-all (changes_of h) (key_at s) (Commit h) primary s (λ e x. refl) one es b (record { ascends = form.ascends; passed = sym (commit_keys-all h b (map (key_at s) es)) ∙ c; is = refl })
  where
    one : {want : Box} (e : Entry) (rest : List Key) (x : Box) → Applying (changes_of h) want x (key_at s e ∷ rest) → EntryReady (Commit h) primary s e x
    one e rest x v st area built q room = record { built = built; floor = 0; head = p; passed = ap (λ (y : Box). commit_key h y (key_at s e)) q ∙ applying-passed v; area_room = room }

-- ---- the ways out

module _ {st : Store} {area s : Bytes} {es : List Entry} (a : AllAsks st area s es) (h : CommitTerms) {v : BatchVerdict}
    (j : Judged (floor_keys st.floor h (box_of st area) (map (key_at s) es)) (some_new h (box_of st area) (map (key_at s) es)) v) where
  abbrev b : Box
  b = box_of st area

  abbrev ks : List Key
  ks = map (key_at s) es

  done-is : all_done st.floor h ks b ≡ settle v.answer (apply_commits h ks b) b
  unfolding all_done
  done-is = ap (λ (x : Answer). settle x (apply_commits h ks b) b) (sym j.answer_is)

  -- a refusal, or a replay
  stays_is : v.moves ≡ false → settle v.answer (apply_commits h ks b) b ≡ record { answer = v.answer; box = b }
  stays_is x = go (is_accepted v.answer) refl
    where
      go : (t : Bool) → is_accepted v.answer ≡ t → settle v.answer (apply_commits h ks b) b ≡ record { answer = v.answer; box = b }
      go false e = settle-old v.answer (apply_commits h ks b) b (is-refusal v.answer (sym e) refl)
      go true e =
          let p = is-accepted v.answer (sym e) refl in
          let old : some_new h b ks ≡ false = sym (j.moves_is ∙ ap (λ (t : Bool). t && some_new h b ks) e) ∙ x in
          settle-new v.answer (apply_commits h ks b) b p ∙ ap₂ (λ (y : Answer) (c : Box). record { answer = y; box = c }) (sym p) (all_old h b ks old)

  pass-still : v.moves ≡ false → Settled st area (all_done st.floor h (map (key_at s) es) (box_of st area)) (record { store = st; answer = v.answer }) area
  pass-still e = settled_same a.made (done-is ∙ stays_is e)

  module _ (move : v.moves ≡ true) where
    both : is_accepted v.answer && some_new h b ks ≡ true
    both = sym j.moves_is ∙ move

    passes : v.answer ≡ Accepted
    passes = is-accepted v.answer (sym (and_left _ _ both)) refl

    checked : commit_keys h b ks ≡ Accepted
    checked = then-right (need (ltb st.floor h.start) 14) _ (sym j.answer_is ∙ passes)

    -- the keys may be committed
    pub pass-asks : commit_terms_step 0 h ≡ Accepted → {primary : Key} → ApplyAsks (Commit h) primary st area s es
    pass-asks p {primary} = record { made = a.made; listed = a.form.listed; ready = ends-ready h primary b p a.form checked; above = λ _. tt }

    -- and the box becomes another one, for which there is room: a commit takes none
    pub pass-done : {primary : Key} {t : Store} {area' : Bytes} → AllApplied (Commit h) primary st area s es t area' → Settled st area (all_done st.floor h (map (key_at s) es) (box_of st area)) (record { store = t; answer = Accepted }) area'
    pass-done {primary} {t} {area'} w =
        let y = load_fields (w.built.kept.load_is ∙ ap load_of same) in
        let z = load_fields a.made.built.kept.load_is in
        let m = commits-less h ks b in
        settled-new (record { built = w.built; fit = omega (arith, y, z, m, a.made.fit); above = w.above }) w.floor_is
        (done-is ∙ settle-new v.answer (apply_commits h ks b) b passes ∙ ap (λ (c : Box). record { answer = Accepted; box = c }) (sym same))
        (λ r. omega (arith, (load_fields (ap load_of (sym same ∙ r))).locks, some-fewer h b ks checked (and_right (is_accepted v.answer) _ both)))
      where
        same : box_of t area' ≡ apply_commits h ks b
        same = w.shown ∙ sym (applied-is (apply_commit h) (key_at s) (Commit h) primary s (λ k x. refl) es b) ∙ sym (apply_commits-all h ks b)

  -- by what the checks came to
  pub pass-settled : {primary : Key} {r : Answer} {t : Store} {area' : Bytes} → SettledBy v (Commit h) primary st area s es r t area' → Settled st area (all_done st.floor h (map (key_at s) es) (box_of st area)) (record { store = t; answer = r }) area'
  pass-settled w = settled-by w pass-still passes (λ e u. pass-done e u)
