-- Document 02, CR 9, over the definitions (specs/Holders): a 7 comes from a step that asks for an own lock, of the lock that stands at the key. One
-- law a call, and then all of them. Assumes nothing.
use Prim.Native.Nat.{ℕ, ◌≤◌, ◌<◌}
use mathlib.Core.Path.{◌≡◌, refl, sym, ap, ◌∙◌, subst}
use mathlib.Core.Logic.{inl, inr}
use mathlib.Core.Bool.{Bool, true, false, true≢false}
use mathlib.Core.List.{List, [], ◌∷◌}
use mathlib.Core.Option.{Option, none, some}
use lib.Dec.{ltb}
use borrow.Author.Tests.{eq-eqb, ltb-false, ltb-true}
use Rattle.forms.specs.Bytes.{Bytes, eq_bytes, lt_bytes}
use Rattle.forms.specs.Key.{Key}
use Rattle.forms.specs.Row.{Row}
use Rattle.forms.specs.Readers.{is_some}
use Rattle.forms.specs.Batch.{Mutation, key_inside, mutations, keys}
use Rattle.forms.proofs.Orders.{eq_bytes-refl, eq_bytes-true}
use Rattle.rules.specs.Answers.{Answer, Accepted, No, Held, Holder, number, no_holder, holder, ◌▸◌, need_own, Reply, nothing, shown, refused, answer_of}
use Rattle.rules.specs.declared.records.Kind.{Kind}
use Rattle.rules.specs.declared.records.Record.{Record}
use Rattle.rules.specs.declared.terms.CommitTerms.{CommitTerms}
use Rattle.rules.specs.Box.{Box, Lock, Line, Standing, Finished, KeyLine, holder_of, records_of, lock_of, add_lock, row_of, before, all_after, ordered, in_order}
use Rattle.rules.specs.Read.{keep_if, lock_lets, read_steps, examine, read}
use Rattle.rules.specs.Page.{Bounds, Limits, in_bounds, keys_of, keys_within, with_key, read_key, row_cost, page, row_page_steps, intent_page, conflict_page}
use Rattle.rules.specs.Written.{key_row_bytes, key_lock_bytes, scan_page, scan_intent_page, scan_conflicting_intents}
use Rattle.rules.specs.Calls.{State, owns, zero_step, stamped_at}
use Rattle.rules.specs.Prewrite.{PrewriteTerms, prewrite_terms_step, lock_step, prewrite_entry, prewrite_room, prewrite_steps, prewrite_all, prewrite_batch}
use Rattle.rules.specs.Commit.{commit_terms_step, with_start, commit_lock, commit_step, commit_key, commit_steps, commit_all, commit_batch}
use Rattle.rules.specs.Rollback.{rollback_terms_step, rollback_lock, rollback_step, rollback_key, rollback_room, rollback_steps, rollback_all, rollback_batch}
use Rattle.rules.specs.OneStep.{all_applied, step_lock, step_entry, step_entries, step_new, step_applied, step_arguments, step_done, step_all, of_counted, one_step}
use Rattle.rules.specs.Collect.{line_above_step, locks_above_step, collect_steps, collect}
use Rattle.rules.specs.Call.{Changing, Call, perform}
use Rattle.laws.proofs.StepLaws.{and_both, own-true}
use Rattle.laws.proofs.Sorted.{In, ordered-first, ordered-rest}
use Rattle.laws.proofs.BoxOrder.{order-lines}
use Rattle.laws.proofs.KeyLaws.{lock-after}
use Rattle.laws.proofs.LinePlaces.{past-lines}
use Rattle.laws.proofs.PrewriteLaws.{prewrite_entries-all}
use Rattle.laws.proofs.CommitLaws.{commit_keys-all}
use Rattle.laws.proofs.RollbackLaws.{rollback_keys-all}
use Rattle.ledger.specs.Tidy.{Tidy}
use Rattle.ledger.specs.Holders.{NamedKey, Another, Bars, Carries, HolderSays, HoldersTold}
use Rattle.ledger.proofs.SevenLaws.{Seven, seven-for, steps, no_seven, accepted-seven, need-seven, own-seven, then_if, then-seven, past-seven, all-seven, settle-seven, settle_state-seven, applied-seven, batch-seven, passed-seven, page-seven, walk-seven, written-seven}
use Rattle.ledger.proofs.SevenFree.{page-arguments, intent-page, conflict-page, one-intent, restored, captured, converted, bone-asked, bones-asked, rollback-records, newest-seven, step-arguments}
use Rattle.ledger.proofs.Unmet.{lock-sound, read_walk}
use Rattle.ledger.proofs.CollectSays.{in_mem}

-- ---- the lock of a 7

-- the holder is that of a lock which stands in the box and bars the call
record Barred (bars : Key → Lock → Type 0) (b : Box) (h : Holder) : Type 0 where
  key : Key
  lock : Lock
  stands : lock_of key b.lines ≡ some lock
  why : bars key lock
  is : h ≡ holder_of lock

-- so is that of a call's 7
abbrev SevenOf : Call → Box → Answer → Type 0
SevenOf c b a = Seven (Barred (Bars c b) b) a

zeros : (a : Answer) → (number a ≡ 7 → ⊥) → holder a ≡ no_holder
zeros Accepted n = refl
zeros (No m) n = refl
zeros (Held h) n = absurd (n refl)

-- of an accepted call there is nothing to tell
pub accepted-says : {bars : Key → Lock → Type 0} {b : Box} → HolderSays bars b Accepted
accepted-says = record { seven = λ e. absurd (true≢false (sym (eq-eqb 0 7 e))); other = λ n. refl }

module _ {bars : Key → Lock → Type 0} {b : Box} where
  -- a step that asks for an own lock
  own : (k : Key) (l : Lock) (t : Bool) → lock_of k b.lines ≡ some l → (t ≡ false → bars k l) → Seven (Barred bars b) (need_own t (holder_of l))
  own k l t e w = own-seven t (holder_of l) (λ n. record { key = k; lock = l; stands = e; why = w n; is = refl })

  says : Tidy b → (a : Answer) → Seven (Barred bars b) a → HolderSays bars b a
  says v a p = record { seven = λ s. carried (p.held s); other = zeros a }
    where
      carried : (h : Holder) × (a ≡ Held h) × Barred bars b h → Carries bars b a
      carried q =
          let x = q.2 in
          let e : holder a ≡ holder_of x.lock = ap holder q.1 ∙ x.is in
          record {
            key = x.key;
            lock = x.lock;
            stands = x.stands;
            sound = lock-sound b v x.key x.lock x.stands;
            why = x.why;
            held = q.1 ∙ ap Held (sym (ap holder q.1));
            txn_is = ap (λ (h : Holder). h.txn) e;
            start_is = ap (λ (h : Holder). h.start) e;
            ttl_is = ap (λ (h : Holder). h.ttl) e;
            kind_is = ap (λ (h : Holder). h.kind) e;
          }

-- ---- reads and pages

module _ (b : Box) (v : Tidy b) (bars : Key → Lock → Type 0) where
  read-seven : (floor : ℕ) (k : Key) (m : ℕ) → ((l : Lock) → l.start ≤ m → bars k l) → Seven (Barred bars b) (answer_of (read floor k m b))
  unfolding read examine read_steps lock_lets
  read-seven floor k m w =
      passed-seven (read_steps floor k m b) _ (past-seven _ 1 _ refl (past-seven _ 14 _ refl (lets (lock_of k b.lines) refl)))
      (subst (Seven (Barred bars b)) (sym (read_walk b v k m)) accepted-seven)
    where
      lets : (o : Option Lock) → lock_of k b.lines ≡ o → Seven (Barred bars b) (lock_lets m o)
      lets none e = accepted-seven
      lets (some l) e = own k l (ltb m l.start) e (λ n. w l (ltb-false m l.start n))

  key-seven : (m : ℕ) (k : Key) → ((l : Lock) → l.start ≤ m → bars k l) → Seven (Barred bars b) (answer_of (read_key m b k))
  unfolding read_key
  key-seven m k w = go (read 0 k m b) (read-seven 0 k m w)
    where
      go : (r : Reply Row) → Seven (Barred bars b) (answer_of r) → Seven (Barred bars b) (answer_of (with_key k r))
      go nothing p = p
      go (shown r) p = p
      go (refused a) p = p

within-bounds : (a : Bounds) (ks : List Key) (k : Key) → In k (keys_within a ks) → in_bounds a k ≡ true
unfolding keys_within keep_if
within-bounds a (j ∷ ks) k m = go (in_bounds a j) refl m (within-bounds a ks k)
  where
    go : (t : Bool) → in_bounds a j ≡ t → In k (keep_if t j (keys_within a ks)) → (In k (keys_within a ks) → in_bounds a k ≡ true) → in_bounds a k ≡ true
    go true e (inl i) ih = ap (in_bounds a) i ∙ e
    go true e (inr i) ih = ih i
    go false e i ih = ih i
within-bounds a [] k m = elim m [ ]

page-says : (b : Box) → Tidy b → (floor : ℕ) (a : Bounds) (m : ℕ) (limits : Limits) → SevenOf (Call.Page a m limits) b (answer_of (page floor a m limits b))
unfolding page row_page_steps
page-says b v floor a m limits =
    page-seven _ _ _ (then-seven _ _ (page-arguments limits.rows limits.bytes a) (need-seven _ 14 refl))
    (walk-seven (read_key m b) row_cost limits _ (λ k i. key-seven b v (Bars (Call.Page a m limits) b) m k (λ l s. (within-bounds a (keys_of b.lines) k i, s))) 0 0)

-- ---- changing calls: another's lock, at a key that the batch names

another : (txn start : ℕ) (l : Lock) → owns txn start l ≡ false → Another txn start l
another txn start l n t s = true≢false (sym (and_both _ _ (eq-eqb l.txn txn t) (eq-eqb l.start start s)) ∙ n)

module _ (b : Box) (named : Key → Type 0) (txn start : ℕ) where
  -- the holder of a lock that is not the call's own
  abbrev Others : Holder → Type 0
  Others h = Barred (λ k l. named k × Another txn start l) b h

  asks : (k : Key) → named k → (l : Lock) → lock_of k b.lines ≡ some l → Seven Others (need_own (owns txn start l) (holder_of l))
  asks k n l e = own k l (owns txn start l) e (λ f. (n, another txn start l f))

-- an entry of the batch is named by it
named_by : {A : Type 0} (key : A → Key) (o : Option (List A)) (xs : List A) → o ≡ some xs → (x : A) → In x xs → NamedKey key o (key x)
named_by key o xs e x i = (xs, e, x, in_mem x xs i, refl)

module _ (b : Box) (named : Key → Type 0) (h : PrewriteTerms) where
  prewrite-lock : (k : Key) → named k → (row stored : Option Row) (o : Option Lock) → lock_of k b.lines ≡ o → Seven (Others b named h.txn h.start) (lock_step h row stored o)
  unfolding lock_step
  prewrite-lock k n row stored none e = need-seven _ 9 refl
  prewrite-lock k n row stored (some l) e = then-seven _ _ (asks b named h.txn h.start k n l e) (need-seven _ 9 refl)

  prewrite-entry : (m : Mutation) → named m.key → Seven (Others b named h.txn h.start) (prewrite_entry h b m)
  unfolding prewrite_entry
  prewrite-entry m n = past-seven _ 1 _ refl (past-seven _ 2 _ refl (past-seven _ 9 _ refl (past-seven _ 8 _ refl (prewrite-lock m.key n _ _ _ refl))))

module _ (b : Box) (named : Key → Type 0) (h : CommitTerms) where
  commit-lock : (k : Key) → named k → (ws : List Record) (stored : Option Row) (o : Option Lock) → lock_of k b.lines ≡ o → Seven (Others b named h.txn h.start) (commit_lock h ws stored o)
  unfolding commit_lock
  commit-lock k n ws stored none e = no_seven 8 refl
  commit-lock k n ws stored (some l) e = then-seven _ _ (asks b named h.txn h.start k n l e) (search steps)

  commit-key : (k : Key) → named k → Seven (Others b named h.txn h.start) (commit_key h b k)
  unfolding commit_key commit_step
  commit-key k n = past-seven _ 1 _ refl (past-seven _ 9 _ refl (go (records_of k b.lines) (row_of k h.start b.defaults) (with_start h.start (records_of k b.lines))))
    where
      go : (ws : List Record) (stored : Option Row) (f : Option Record) → Seven (Others b named h.txn h.start) (commit_step h ws stored (lock_of k b.lines) f)
      go ws stored (some w) = search steps
      go ws stored none = commit-lock k n ws stored _ refl

  step-lock : (k : Key) → named k → (kind : Kind) (o : Option Lock) → lock_of k b.lines ≡ o → Seven (Others b named h.txn h.start) (step_lock h kind o)
  unfolding step_lock
  step-lock k n kind none e = accepted-seven
  step-lock k n kind (some l) e = then-seven _ _ (asks b named h.txn h.start k n l e) (need-seven _ 9 refl)

  step-entries : (ms : List Mutation) → ((m : Mutation) → In m ms → named m.key) → Seven (Others b named h.txn h.start) (step_entries h b ms)
  unfolding step_entries step_entry
  step-entries [] f = accepted-seven
  step-entries (m ∷ ms) f = then-seven _ _ (then-seven _ _ (step-lock m.key (f m (inl refl)) _ _ refl) (search steps)) (step-entries ms (λ y i. f y (inr i)))

module _ (b : Box) (named : Key → Type 0) (txn start : ℕ) where
  rollback-lock : (k : Key) → named k → (stored : Option Row) (o : Option Lock) → lock_of k b.lines ≡ o → Seven (Others b named txn start) (rollback_lock txn start stored o)
  unfolding rollback_lock
  rollback-lock k n stored none e = need-seven _ 9 refl
  rollback-lock k n stored (some l) e = then-seven _ _ (asks b named txn start k n l e) (need-seven _ 9 refl)

  rollback-key : (k : Key) → named k → Seven (Others b named txn start) (rollback_key txn start b k)
  unfolding rollback_key rollback_step
  rollback-key k n = past-seven _ 1 _ refl (then-seven _ _ (rollback-records start _) (go (row_of k start b.defaults) (stamped_at start (records_of k b.lines))))
    where
      go : (stored : Option Row) (f : Option Record) → Seven (Others b named txn start) (rollback_step txn start stored (lock_of k b.lines) f)
      go stored (some w) = search steps
      go stored none = rollback-lock k n stored _ refl

-- ---- the four calls

prewrite-seven : (floor : ℕ) (h : PrewriteTerms) (s : Bytes) (b : Box) → SevenOf (Call.Change (Changing.Prewrite h s)) b (prewrite_batch floor h s b).answer
unfolding prewrite_batch prewrite_all prewrite_steps prewrite_terms_step prewrite_room
prewrite-seven floor h s b =
    batch-seven (mutations s) (prewrite_all floor h) b
    (λ ms e. settle-seven _ _ b
    (past-seven _ 5 _ refl (then-seven _ _ (search steps) (then-seven _ _
    (all-seven (prewrite_entry h) b ms (prewrite_entries-all h b ms) (λ m i. prewrite-entry b (NamedKey key_inside (mutations s)) h m (named_by key_inside (mutations s) ms e m i)))
    (need-seven _ 11 refl)))))

commit-seven : (floor : ℕ) (h : CommitTerms) (s : Bytes) (b : Box) → SevenOf (Call.Change (Changing.Commit h s)) b (commit_batch floor h s b).answer
unfolding commit_batch commit_all commit_steps commit_terms_step zero_step
commit-seven floor h s b =
    batch-seven (keys s) (commit_all floor h) b
    (λ ks e. settle-seven _ _ b
    (past-seven _ 5 _ refl (then-seven _ _ (search steps)
    (all-seven (commit_key h) b ks (commit_keys-all h b ks) (λ k i. commit-key b (NamedKey (λ (j : Key). j) (keys s)) h k (named_by (λ (j : Key). j) (keys s) ks e k i))))))

rollback-seven : (floor txn start : ℕ) (s : Bytes) (b : Box) → SevenOf (Call.Change (Changing.Rollback txn start s)) b (rollback_batch floor txn start s b).answer
unfolding rollback_batch rollback_all rollback_steps rollback_terms_step zero_step rollback_room
rollback-seven floor txn start s b =
    batch-seven (keys s) (rollback_all floor txn start) b
    (λ ks e. settle-seven _ _ b
    (past-seven _ 5 _ refl (then-seven _ _ (search steps) (then-seven _ _
    (all-seven (rollback_key txn start) b ks (rollback_keys-all txn start b ks) (λ k i. rollback-key b (NamedKey (λ (j : Key). j) (keys s)) txn start k (named_by (λ (j : Key). j) (keys s) ks e k i)))
    (need-seven _ 11 refl)))))

step-seven : (floor : ℕ) (h : CommitTerms) (s : Bytes) (b : Box) → SevenOf (Call.Change (Changing.OneStep h s)) b (one_step floor h s b).done.answer
unfolding one_step of_counted step_all step_done step_applied step_new
step-seven floor h s b = go (mutations s) refl
  where
    applied : (ms : List Mutation) → mutations s ≡ some ms → (t : Bool) → SevenOf (Call.Change (Changing.OneStep h s)) b (step_applied t h ms b).answer
    applied ms e true = accepted-seven
    applied ms e false =
        settle-seven _ _ b
        (past-seven _ 9 _ refl (then-seven _ _ (step-entries b (NamedKey key_inside (mutations s)) h ms (named_by key_inside (mutations s) ms e)) (then-seven _ _ (newest-seven h b ms) (need-seven _ 11 refl))))

    go : (o : Option (List Mutation)) → mutations s ≡ o → SevenOf (Call.Change (Changing.OneStep h s)) b (of_counted o (step_all floor h) b).done.answer
    go none e = no_seven 6 refl
    go (some ms) e = applied-seven (step_arguments floor h ms b) b _ (step-arguments floor h ms b) (applied ms e (all_applied h b ms))

-- ---- a collection: the first key in order

none-some : {A : Type 0} {o : Option A} {x : A} → o ≡ none → o ≡ some x → ⊥
none-some p q = true≢false (sym (ap is_some q) ∙ ap is_some p)

module _ (f : ℕ) where
  -- at every key before this one a lock starts above F
  abbrev First : List KeyLine → Key → Type 0
  First es k = (j : Key) (o : Lock) → lt_bytes j k ≡ true → lock_of j es ≡ some o → f < o.start

  abbrev Low : List KeyLine → Holder → Type 0
  Low es h = (k : Key) × (l : Lock) × (lock_of k es ≡ some l) × (l.start ≤ f) × First es k × (h ≡ holder_of l)

  here : (k : Key) (l : Lock) (es : List KeyLine) → lock_of k (record { key = k; line = Standing l } ∷ es) ≡ some l
  unfolding lock_of add_lock
  here k l es = rw (eq_bytes-refl k)

  -- past a record: what stands at a key is what stands there in the rest
  past-record : (k j : Key) (w : Record) (es : List KeyLine) → lock_of k (record { key = j; line = Finished w } ∷ es) ≡ lock_of k es
  unfolding lock_of add_lock
  past-record k j w es = go (eq_bytes k j)
    where
      go : (t : Bool) → add_lock t (Finished w) (lock_of k es) ≡ lock_of k es
      go true = refl
      go false = refl

  record-low : (j : Key) (w : Record) (es : List KeyLine) (h : Holder) → Low es h → Low (record { key = j; line = Finished w } ∷ es) h
  record-low j w es h x = (x.0, x.1, past-record x.0 j w es ∙ x.2, x.3, λ i o lt e. x.4 i o lt (sym (past-record i j w es) ∙ e), x.5)

  -- past a lock above F, which is its key's only one
  lock-low : (j : Key) (l : Lock) (es : List KeyLine) → ordered before (record { key = j; line = Standing l } ∷ es) ≡ true → f < l.start → (h : Holder) → Low es h → Low (record { key = j; line = Standing l } ∷ es) h
  unfolding lock_of add_lock
  lock-low j l es o up h x = (x.0, x.1, there (eq_bytes x.0 j) refl, x.3, λ i m lt e. before-it i m (eq_bytes i j) e (x.4 i m lt), x.5)
    where
      there : (t : Bool) → eq_bytes x.0 j ≡ t → add_lock t (Standing l) (lock_of x.0 es) ≡ some x.1
      there true e =
          absurd (none-some (lock-after x.0 l es (subst (λ (i : Key). all_after before (record { key = i; line = Standing l }) es ≡ true) (sym (eq_bytes-true x.0 j e)) (ordered-first before _ es o))) x.2)
      there false e = x.2

      before-it : (i : Key) (m : Lock) (t : Bool) → add_lock t (Standing l) (lock_of i es) ≡ some m → (lock_of i es ≡ some m → f < m.start) → f < m.start
      before-it i m true e g = let p : l ≡ m = cc in subst (λ (z : Lock). f < z.start) p up
      before-it i m false e g = g e

  collect-walk : (es : List KeyLine) → ordered before es ≡ true → Seven (Low es) (locks_above_step f es)
  unfolding locks_above_step
  collect-walk [] o = accepted-seven
  collect-walk (e ∷ es) o = go e.key e.line o (collect-walk es (ordered-rest before e es o))
    where
      go : (j : Key) (x : Line) → ordered before (record { key = j; line = x } ∷ es) ≡ true → Seven (Low es) (locks_above_step f es)
          → Seven (Low (record { key = j; line = x } ∷ es)) (line_above_step f x ▸ locks_above_step f es)
      go j (Standing l) o ih =
          then_if _ _
          (own-seven (ltb f l.start) (holder_of l)
          (λ n. (j, l, here j l es, ltb-false f l.start n, λ i m lt e. absurd (none-some (past-lines i (record { key = j; line = Standing l }) es o lt).0 e), refl)))
          (λ p. seven-for (lock-low j l es o (ltb-true f l.start (own-true _ _ p))) ih)
      go j (Finished w) o ih = then-seven _ _ accepted-seven (seven-for (record-low j w es) ih)

collect-seven : (f : ℕ) (st : State) → in_order st.box ≡ true → SevenOf (Call.Change (Changing.Collect f)) st.box (collect f st).answer
unfolding collect collect_steps
collect-seven f st o =
    settle_state-seven (collect_steps f st) _ st
    (past-seven _ 14 _ refl (seven-for (λ h x. record { key = x.0; lock = x.1; stands = x.2; why = (x.3, x.4); is = x.5 }) (collect-walk f st.box.lines (order-lines st.box o))))

-- ---- all calls

pub holders-told : HoldersTold
unfolding scan_page scan_intent_page scan_conflicting_intents perform
holders-told (Call.Read k m) st buffer v o = says v _ (read-seven st.box v (Bars (Call.Read k m) st.box) st.floor k m (λ l s. (refl, s)))
holders-told (Call.Page a m limits) st buffer v o = says v _ (written-seven key_row_bytes (page st.floor a m limits st.box) buffer (page-says st.box v st.floor a m limits))
holders-told (Call.IntentPage a limit) st buffer v o = says v _ (written-seven key_lock_bytes (intent_page a limit st.box) buffer (intent-page a limit st.box))
holders-told (Call.ConflictingIntents a m limits) st buffer v o = says v _ (written-seven key_lock_bytes (conflict_page a m limits st.box) buffer (conflict-page a m limits st.box))
holders-told (Call.OneIntent k m) st buffer v o = says v _ (one-intent k m st.box)
holders-told (Call.Change (Changing.Prewrite h s)) st buffer v o = says v _ (prewrite-seven st.floor h s st.box)
holders-told (Call.Change (Changing.Commit h s)) st buffer v o = says v _ (commit-seven st.floor h s st.box)
holders-told (Call.Change (Changing.Rollback txn start s)) st buffer v o = says v _ (rollback-seven st.floor txn start s st.box)
holders-told (Call.Change (Changing.OneStep h s)) st buffer v o = says v _ (step-seven st.floor h s st.box)
holders-told (Call.Change (Changing.Collect f)) st buffer v o = says v _ (collect-seven f st o)
holders-told (Call.Restore s) st buffer v o = says v _ (restored s st)
holders-told Call.Statistics st buffer v o = accepted-says
holders-told Call.Marks st buffer v o = accepted-says
holders-told (Call.Capture t) st buffer v o = says v _ (captured st.floor t st.box buffer)
holders-told (Call.Convert s) st buffer v o = says v _ (converted s buffer)
holders-told (Call.Bone r n) st buffer v o = says v _ (bone-asked r n)
holders-told (Call.Bones r) st buffer v o = says v _ (bones-asked r)
