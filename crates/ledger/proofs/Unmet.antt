-- Document 02, CR 3: the steps of document 01 that answer 9 and can refuse in no tidy box, each as a law that its test holds there. What is
-- found in such a box are sound locks and records, each the one line of its pair with the row that its kind asks, and no row without a line.
-- These 9s remain: a prewrite's own lock with another field or a different row; a rollback's record stamped with its start; a one-step
-- batch's record at commit of other kind or row, "Some", and own lock of other kind. Assumes nothing.
use Prim.Native.Nat.{ℕ}
use mathlib.Core.Path.{◌≡◌, refl, sym, ◌∙◌}
use mathlib.Core.Logic.{inl}
use mathlib.Core.Bool.{Bool, true, false, ◌&&◌, ◌||◌, not, true≢false, false≢true}
use mathlib.Core.List.{List, [], ◌∷◌}
use mathlib.Core.Option.{Option, none, some}
use lib.Dec.{eqb}
use borrow.Author.Tests.{eqb-true}
use Rattle.forms.specs.Key.{Key, key_form}
use Rattle.forms.specs.Row.{Row, row_form}
use Rattle.forms.specs.Readers.{is_some}
use Rattle.rules.specs.Answers.{Answer, Accepted, No, Held, answer_of, if_passed, count_if}
use Rattle.rules.specs.declared.records.Kind.{Kind}
use Rattle.rules.specs.declared.records.Kind.TheVariants.{Put, Delete, Rollback}
use Rattle.rules.specs.declared.records.Record.{Record}
use Rattle.rules.specs.Box.{Box, Lock, Line, Standing, Finished, KeyLine, Default, kind_in, line_is, at_pair, eq_kind, records_of, lock_of, row_of}
use Rattle.rules.specs.Sound.{sound_record, sound_lock, all_sound}
use Rattle.rules.specs.Calls.{owns, all_below, kind_ready, decodes, lock_at, stamped_at}
use Rattle.rules.specs.Read.{Examined, newest_first, walk, read_steps, examine}
use Rattle.rules.specs.Page.{Bounds, KeyLock, locks_of, locks_within}
use Rattle.rules.specs.Commit.{with_start, put_has_row}
use Rattle.rules.specs.Rollback.{rollback_records}
use Rattle.rules.specs.Restore.{all_good}
use Rattle.laws.proofs.StepLaws.{passed, and_left, and_right, by-test}
use Rattle.laws.proofs.Sorted.{In}
use Rattle.laws.proofs.RecordLaws.{eq_kind-true, in-sound, below-started, started-in, stamped-in, rollback-started}
use Rattle.laws.proofs.NewestFirstLaws.{walk-accepts, locks-good}
use Rattle.ledger.specs.Ledger.{lines_at, rows_at}
use Rattle.ledger.specs.Tidy.{RowsOf, Paired, free, taken, good_line, good_row, sound_line, Tidy}
use Rattle.ledger.proofs.ChosenLaws.{chosen-good, in-nil, sole}
use Rattle.ledger.proofs.PairLineLaws.{lock-in, record-in, no_lines}
use Rattle.ledger.proofs.PairRowLaws.{first_of, row_first}
use Rattle.ledger.proofs.CloseHolds.{lock-at, record-at}

-- a Put has a row that decodes, a Delete and a Rollback none
abbrev pub record_ready : Kind → Option Row → Bool
record_ready Put stored = decodes stored
record_ready Delete stored = not (is_some stored)
record_ready Rollback stored = not (is_some stored)

rows-ready : (kind : Kind) (rs : List Row) → RowsOf kind rs → ((r : Row) → In r rs → row_form r ≡ true) → record_ready kind (first_of rs) ≡ true
rows-ready Put rs d g = rw d.1 (g d.0 (rw d.1 (inl refl)))
rows-ready Delete rs d g = rw d
rows-ready Rollback rs d g = rw d

standing : (kind : Kind) (stored : Option Row) → not (eq_kind kind Rollback) ≡ true → record_ready kind stored ≡ true → kind_ready kind stored ≡ true
standing Put stored n r = r
standing Delete stored n r = r
standing Rollback stored n r = absurd (false≢true n)

lock-kind : (l : Lock) → sound_lock l ≡ true → not (eq_kind l.kind Rollback) ≡ true
unfolding sound_lock
lock-kind l h = search passed

has-row : (kind : Kind) (stored : Option Row) → record_ready kind stored ≡ true → put_has_row kind stored ≡ true
has-row Put none f = f
has-row Put (some r) f = refl
has-row Delete stored f = refl
has-row Rollback stored f = refl

-- steps before a walk that accepts: if the whole refuses, they do
refusal-counts : (a : Answer) (x : Examined) → answer_of x.reply ≡ Accepted → (answer_of (if_passed a x.reply) ≡ Accepted → ⊥) → count_if a x.count ≡ 0
unfolding if_passed count_if
refusal-counts Accepted x e n = absurd (n e)
refusal-counts (No m) x e n = refl
refusal-counts (Held h) x e n = refl

module _ (b : Box) (v : Tidy b) where
  -- ---- a pair's lines and rows

  line-sound : (k : Key) (s : ℕ) (z : Line) → In z (lines_at k s b.lines) → sound_line z ≡ true
  line-sound k s z m =
      chosen-good (line_is k s) (λ (e : KeyLine). e.line) good_line (λ x. sound_line x ≡ true) (λ e p g. and_right (key_form e.key) _ g) b.lines z v.sound.lines m

  row-form : (k : Key) (s : ℕ) (r : Row) → In r (rows_at k s b.defaults) → row_form r ≡ true
  row-form k s r m =
      chosen-good (at_pair k s) (λ (d : Default). d.row) good_row (λ r. row_form r ≡ true) (λ d p g. and_right (key_form d.key && not (eqb d.start 0)) _ g) b.defaults r v.sound.rows m

  -- the row of a line's pair is the one that its kind asks
  pub row-ready : (k : Key) (s : ℕ) (z : Line) → In z (lines_at k s b.lines) → record_ready (kind_in z) (row_of k s b.defaults) ≡ true
  row-ready k s z m = rw row_first (go (v.pairs k s))
    where
      go : Paired b k s → record_ready (kind_in z) (first_of (rows_at k s b.defaults)) ≡ true
      go (free a d) = absurd (in-nil z _ m a)
      go (taken x a d) = rows-ready (kind_in z) (rows_at k s b.defaults) (rw (sole z x _ m a) d) (row-form k s)

  -- a pair without a line has no row
  pub no_row : (k : Key) (s : ℕ) → lines_at k s b.lines ≡ [] → row_of k s b.defaults ≡ none
  no_row k s n = rw row_first (go (v.pairs k s))
    where
      go : Paired b k s → first_of (rows_at k s b.defaults) ≡ none
      go (free a d) = rw d
      go (taken x a d) = absurd (true≢false (cc))

  -- the pair of a record has no lock
  pub no-lock : (k : Key) (s : ℕ) (w : Record) → In (Finished w) (lines_at k s b.lines) → lock_at s (lock_of k b.lines) ≡ false
  no-lock k s w m = go (lock_of k b.lines) refl
    where
      never : (l : Lock) → In (Standing l) (lines_at k s b.lines) → Paired b k s → ⊥
      never l n (free a d) = in-nil (Finished w) _ m a
      never l n (taken x a d) = true≢false (cc (sole (Standing l) x _ n a, sole (Finished w) x _ m a))

      go : (o : Option Lock) → lock_of k b.lines ≡ o → lock_at s o ≡ false
      go none e = refl
      go (some l) e = by-test (λ t. t ≡ false) (eqb l.start s) (λ q. absurd (never l (lock-at b k s [] l e (eqb-true l.start s q)) (v.pairs k s))) (λ q. refl)

  -- ---- what is found at a key

  pub lock-sound : (k : Key) (l : Lock) → lock_of k b.lines ≡ some l → sound_lock l ≡ true
  lock-sound k l e = line-sound k l.start (Standing l) (lock-in k b.lines l e)

  pub record-sound : (k : Key) (w : Record) → In w (records_of k b.lines) → sound_record w ≡ true
  record-sound k w m = line-sound k w.start (Finished w) (record-in k b.lines w m)

  -- a standing Put has a row that decodes, a standing Delete none
  pub lock-row : (k : Key) (l : Lock) → lock_of k b.lines ≡ some l → kind_ready l.kind (row_of k l.start b.defaults) ≡ true
  lock-row k l e = standing l.kind _ (lock-kind l (lock-sound k l e)) (row-ready k l.start (Standing l) (lock-in k b.lines l e))

  pub record-row : (k : Key) (w : Record) → In w (records_of k b.lines) → record_ready w.kind (row_of k w.start b.defaults) ≡ true
  record-row k w m = row-ready k w.start (Finished w) (record-in k b.lines w m)

  -- each row belongs to a Put line
  pub row_line : (k : Key) (s : ℕ) (r : Row) → row_of k s b.defaults ≡ some r → (x : Line) × (lines_at k s b.lines ≡ x ∷ []) × (kind_in x ≡ Put)
  row_line k s r e = go (v.pairs k s) (sym (row_first k s b.defaults) ∙ e)
    where
      put : (kind : Kind) (rs : List Row) → RowsOf kind rs → first_of rs ≡ some r → kind ≡ Put
      put Put rs d q = refl
      put Delete rs d q = absurd (true≢false (cc (rw d at q)))
      put Rollback rs d q = absurd (true≢false (cc (rw d at q)))

      go : Paired b k s → first_of (rows_at k s b.defaults) ≡ some r → (x : Line) × (lines_at k s b.lines ≡ x ∷ []) × (kind_in x ≡ Put)
      go (free a d) q = absurd (true≢false (cc (rw d at q)))
      go (taken x a d) q = (x, a, put (kind_in x) _ d q)

  -- ---- the steps

  -- Read and row page, "each checked (9)" and "Put, its default must exist and decode (9)": records are sound, and a Put's row decodes
  pub read_walk : (k : Key) (m : ℕ) → answer_of (walk k b.defaults (newest_first m (records_of k b.lines))).reply ≡ Accepted
  read_walk k m = walk-accepts k b.defaults m (records_of k b.lines) (λ w n. (record-sound k w n, λ put. rw put at (record-row k w n)))

  -- so a read that refuses does so before its first record, and counts 0 (02, CR 6)
  pub read_count : (floor : ℕ) (k : Key) (m : ℕ) → (answer_of (examine floor k m b).reply ≡ Accepted → ⊥) → (examine floor k m b).count ≡ 0
  unfolding examine
  read_count floor k m n = refusal-counts (read_steps floor k m b) (walk k b.defaults (newest_first m (records_of k b.lines))) (read_walk k m) n

  -- Intent page and conflicting intents, "sound (9)": locks are sound; so for one intent at a point, "unsound, 9" (`lock-sound`)
  pub page-sound : (a : Bounds) → all_good (λ (x : KeyLock). sound_lock x.lock) (locks_within a (locks_of b.lines)) ≡ true
  page-sound a = locks-good _ good_line (λ k l g. and_right (key_form k) _ g) a b.lines v.sound.lines

  -- Prewrite, "each record of the key sound (9)"; commit, "records sound, 9"; one-step, "unsound record 9": they are; so for rollback's
  -- "records by ascending stamp, each sound (9)" (`record-sound`)
  pub records-sound : (k : Key) → all_sound (records_of k b.lines) ≡ true
  records-sound k = in-sound _ (record-sound k)

  -- Prewrite, "a default without lock, 9": without a lock, and with each stamp below the start (8), the pair has no line
  pub prewrite-free : (k : Key) (s : ℕ) → lock_of k b.lines ≡ none → all_below s (records_of k b.lines) ≡ true → not (is_some (row_of k s b.defaults)) ≡ true
  prewrite-free k s e l = rw (no_row k s (no_lines k s b.lines e (below-started s _ (records-sound k) l)))

  -- Prewrite, "a Put whose stored row is missing .., 9" (a different row remains); commit, "Put whose default is missing or does not decode,
  -- Delete with a default, or kind Rollback, 9"; rollback, "Put lock without decoding default 9; Delete lock .. with a default 9; kind Rollback
  -- 9": an own lock has the row that its kind asks
  pub own-ready : (txn s : ℕ) (k : Key) (l : Lock) → lock_of k b.lines ≡ some l → owns txn s l ≡ true → kind_ready l.kind (row_of k s b.defaults) ≡ true
  own-ready txn s k l e o = rw (sym (eqb-true l.start s (and_right (eqb l.txn txn) _ o))) (lock-row k l e)

  -- Commit, "9 if this start's lock stands or a Put's default is missing": the record is its pair's one line
  pub commit-again : (k : Key) (s : ℕ) (w : Record) → with_start s (records_of k b.lines) ≡ some w → not (lock_at s (lock_of k b.lines)) && put_has_row w.kind (row_of k s b.defaults) ≡ true
  commit-again k s w e =
      let m = started-in s _ w e in
      let here = record-at b k s [] w m.0 m.1 in
      rw (no-lock k s w here) (has-row w.kind _ (row-ready k s (Finished w) here))

  -- Rollback, "its Rollback with lock or default at this start, 9": the same
  pub rollback-again : (k : Key) (s : ℕ) (w : Record) → stamped_at s (records_of k b.lines) ≡ some w → eq_kind w.kind Rollback && eqb w.start s ≡ true
      → not (lock_at s (lock_of k b.lines) || is_some (row_of k s b.defaults)) ≡ true
  rollback-again k s w e q =
      let here = record-at b k s [] w (stamped-in s _ w e).0 (eqb-true w.start s (and_right (eq_kind w.kind Rollback) _ q)) in
      rw (no-lock k s w here) (rw (eq_kind-true w.kind Rollback (and_left _ _ q)) at (row-ready k s (Finished w) here))

  -- Rollback, "no lock with a default 9": no record of this start either (8, or stamped with it), so no line
  pub rollback-free : (k : Key) (s : ℕ) → rollback_records s (records_of k b.lines) ≡ Accepted → stamped_at s (records_of k b.lines) ≡ none → lock_of k b.lines ≡ none
      → not (is_some (row_of k s b.defaults)) ≡ true
  rollback-free k s p n e = rw (no_row k s (no_lines k s b.lines e (rollback-started s _ p n)))

  -- One-step, "same start but other kind or row, 9": a row is never missing, so it is another
  pub step-stored : (k : Key) (s c : ℕ) (w : Record) → stamped_at c (records_of k b.lines) ≡ some w → w.start ≡ s → w.kind ≡ Put → decodes (row_of k s b.defaults) ≡ true
  step-stored k s c w e a put = rw put at (row-ready k s (Finished w) (record-at b k s [] w (stamped-in c _ w e).0 a))
