-- One line of the table: what is due after it, whether its key waits for more, and the turn that it takes; and so the walk of `walk_lines`.
-- Assumes nothing.
use Prim.Native.Nat.{ℕ, zero, suc, ◌+◌, ◌≤◌, ◌<◌, ◌*◌}
use native.Mathlib.Numerals.{add-one}
use native.Mathlib.Omega.{arith}
use mathlib.Core.Path.{◌≡◌, refl, sym, ap, ◌∙◌, subst}
use mathlib.Core.Logic.{inl, inr}
use mathlib.Core.Bool.{Bool, true, false, ◌&&◌, false≢true}
use mathlib.Core.List.{List, [], ◌∷◌, ◌++◌}
use mathlib.Core.Option.{none, some}
use lib.Dec.{ltb}
use lib.ListN.{length, get_or, take, drop, take-append-drop, set, replicate}
use lib.Seq.{take-suc}
use borrow.Author.Tests.{lt-ltb, ltb-true, ltb-false}
use Rattle.seqs.proofs.Tables.{shown-length, shown-at, shown-drop, shown-past}
use Rattle.forms.specs.Bytes.{Bytes, eq_bytes, lt_bytes}
use Rattle.forms.specs.Key.{Key, key_form}
use Rattle.forms.proofs.Orders.{eq_bytes-true, eq_bytes-sym, lt_bytes-else}
use Rattle.rules.specs.declared.records.Kind.{Kind}
use Rattle.rules.specs.declared.records.Kind.TheVariants.{Put}
use Rattle.rules.specs.Box as box
use Rattle.rules.specs.Box.{start_of, kind_in}
use Rattle.rules.specs.Page.{Bounds, Limits, empty_page, in_bounds, keys_of, keys_within, locks_of, locks_within, page_walk, intent_walk, read_key, row_cost}
use Rattle.rules.specs.Written.{key_row_bytes}
use Rattle.laws.proofs.StepLaws.{and_left, and_right}
use Rattle.laws.proofs.Sorted.{In, fewer-drop, ordered-first, ordered-fewer}
use Rattle.laws.proofs.BoxOrder.{before-not-above}
use Rattle.laws.proofs.LinePlaces.{past-lines}
use Rattle.store.specs.declared.table.Slot.{Slot}
use Rattle.store.specs.declared.table.Store.{Store}
use Rattle.store.specs.declared.table.Line.{Line}
use Rattle.store.specs.declared.table.Line.TheVariants.{Standing, Finished}
use Rattle.store.specs.View.{place_of, row_if, line_in, key_of, line_of, row_in, box_of, no_slot}
use Rattle.store.specs.Made.{Built, good_line, sound_line}
use Rattle.store.specs.Views.{lock_view, record_view, view_in, view_of}
use Rattle.store.proofs.MemberLaws.{fewer-take}
use Rattle.store.proofs.BuiltLaws.{lines-order, slot-in, row-there}
use Rattle.store.proofs.KeySoundLaws.{good-in, row-form, row-shown}
use Rattle.turns.specs.declared.asked.Scan.{Scan}
use Rattle.turns.specs.declared.asked.Scan.TheVariants.{Rows, Intents, Conflicts}
use Rattle.turns.specs.Dues.{Due, no_due, see_row, due_after}
use Rattle.walks.specs.Walked.{page_on, walk_by, limits_of, walk_from, WalkAsks, WalkedAs, empty_of, waits_at, Walked}
use Rattle.turns.specs.Scans.{over_of}
use Rattle.turns.specs.Turns.{turn_due, Turn, On, Stop, Refuse, Add}
use Rattle.walks.proofs.WalkLaws.{Stepped, Walking, walking_start, walking-pass, walking-listed, turn_on, turn-stop, turn-refuse, turn-add}
use Rattle.walks.proofs.ListedLineLaws.{row-lists, intent-stepped, conflict-stepped}
use Rattle.walks.proofs.ReadKeyLaws.{none_before, DueRow, due-none, due-end, due-lock, due-record, keys-shared, keys-last, keys-end, row-stepped}
use Rattle.rules.specs.Answers.{Answer, Accepted}
use Rattle.store.specs.declared.views.LineView.{LineView}
use Rattle.turns.specs.declared.asked.PageQuery.{PageQuery}

-- of a key's lines `pre`; a page of locks keeps nothing from line to line
abbrev pub DueAt : Scan → Bytes → ℕ → List box.Default → Key → List box.KeyLine → Due → Type 0
DueAt Rows area m ds k pre d = DueRow area m ds k pre d
DueAt Intents area m ds k pre d = Unit {0}
DueAt Conflicts area m ds k pre d = Unit {0}

in-at : {A : Type 0} (xs : List A) (i : ℕ) (d : A) → i < length xs → In (get_or xs i d) xs
in-at [] i d h = absurd (omega arith)
in-at (x ∷ xs) zero d h = inl refl
in-at (x ∷ xs) (suc i) d h = inr (in-at xs i d (omega arith))

module _ {st : Store} {area : Bytes} (b : Built st area) where
  abbrev n : ℕ
  n = st.load.lines

  abbrev es : List box.KeyLine
  es = (box_of st area).lines

  abbrev ds : List box.Default
  ds = (box_of st area).defaults

  abbrev slot : ℕ → Slot
  slot i = get_or st.lines i no_slot

  abbrev key : ℕ → Key
  key i = key_of area (get_or st.lines i no_slot)

  pub key_in : (i : ℕ) → i < st.load.lines → place_of (get_or st.lines i no_slot) + (get_or st.lines i no_slot).len ≤ length area
  key_in i h = omega (arith, slot-in b i h)

  module _ (i : ℕ) (h : i < st.load.lines) where
    good : good_line (line_of area (slot i)) ≡ true
    good =
        ap good_line (sym (shown-at b.lines (line_of area) i h))
        ∙ good-in good_line es (get_or es i (line_of area no_slot)) (in-at es i (line_of area no_slot) (omega (arith, shown-length b.lines (line_of area)))) b.kept.good

    form : key_form (key i) ≡ true
    form = and_left _ _ good

    sound : sound_line (line_of area (slot i)).line ≡ true
    sound = and_right (key_form (key i)) _ good

    one_more : take (i + 1) es ≡ take i es ++ line_of area (slot i) ∷ []
    one_more =
        ap (λ (j : ℕ). take j es) (add-one i) ∙ take-suc es i (line_of area no_slot) (omega (arith, shown-length b.lines (line_of area)))
        ∙ ap (λ (e : box.KeyLine). take i es ++ e ∷ []) (shown-at b.lines (line_of area) i h)

    in_order_lem : box.ordered box.before (take i es ++ line_of area (slot i) ∷ []) ≡ true
    in_order_lem = subst (λ (l : List box.KeyLine). box.ordered box.before l ≡ true) one_more (ordered-fewer box.before (fewer-take (i + 1) es) (lines-order b))

    next : i + 1 < st.load.lines → drop (i + 1) es ≡ line_of area (slot (i + 1)) ∷ drop (suc (i + 1)) es
    next g = shown-drop b.lines (line_of area) (i + 1) g

    here : drop i es ≡ line_of area (slot i) ∷ drop (i + 1) es
    here = shown-drop b.lines (line_of area) i h ∙ ap (λ (j : ℕ). line_of area (slot i) ∷ drop j es) (sym (add-one i))

    -- keys ascend
    above : (g : i + 1 < st.load.lines) → eq_bytes (key i) (key (i + 1)) ≡ false → lt_bytes (key i) (key (i + 1)) ≡ true
    unfolding box.all_after
    above g e = lt_bytes-else (key (i + 1)) (key i) (eq_bytes-sym (key (i + 1)) (key i) ∙ e) (before-not-above (line_of area (slot i)) (line_of area (slot (i + 1))) (and_left _ _ (ordered-first box.before (line_of area (slot i)) (line_of area (slot (i + 1)) ∷ drop (suc (i + 1)) es) two)))
      where
        two : box.ordered box.before (line_of area (slot i) ∷ (line_of area (slot (i + 1)) ∷ drop (suc (i + 1)) es)) ≡ true
        two = subst (λ (l : List box.KeyLine). box.ordered box.before l ≡ true) (here ∙ ap (λ (l : List box.KeyLine). line_of area (slot i) ∷ l) (next g)) (ordered-fewer box.before (fewer-drop i es) (lines-order b))

    -- ---- a row: one line more of the key
    row_more : (m : ℕ) {d : Due} → DueRow area m ds (key i) (take i es) d → DueRow area m ds (key i) (take (i + 1) es) (see_row m d (slot i) (view_of area (slot i)))
    row_more m {d} v = subst (λ (l : List box.KeyLine). DueRow area m ds (key i) l (see_row m d (slot i) (view_of area (slot i)))) (sym one_more) (go (slot i).line refl in_order_lem sound (λ p. (row-there b i h st.top b.lines.holds).is ∙ ap (λ (a : Kind). row_if a (row_in area (slot i))) p))
      where
        go : (x : Line) → (slot i).line ≡ x → box.ordered box.before (take i es ++ record { key = key i; line = line_in area (place_of (slot i) + (slot i).len) x } ∷ []) ≡ true → sound_line (line_in area (place_of (slot i) + (slot i).len) x) ≡ true
            → (kind_in (line_in area (place_of (slot i) + (slot i).len) x) ≡ Put → box.row_of (key i) (start_of (line_in area (place_of (slot i) + (slot i).len) x)) ds ≡ some (row_in area (slot i)))
            → DueRow area m ds (key i) (take i es ++ record { key = key i; line = line_in area (place_of (slot i) + (slot i).len) x } ∷ []) (see_row m d (slot i) (view_in area (place_of (slot i) + (slot i).len) x))
        go (Standing l) q o g r = due-lock v (slot i) (lock_view area (place_of (slot i) + (slot i).len) l) o
        go (Finished w) q o g r =
            due-record v (slot i) (record_view area (place_of (slot i) + (slot i).len) w) g (λ p. row-shown (key i) _ ds (row_in area (slot i)) b.kept.rows (r p))
            (λ p. record { key_is = refl; lists = row-lists area (slot i) (slot-in b i h) form w q (row-form (key i) _ ds (row_in area (slot i)) b.kept.rows (r p)) })

    -- there is no more of the key
    row-end : (m : ℕ) {d : Due} → (i + 1 < st.load.lines → eq_bytes (key i) (key (i + 1)) ≡ false) → DueRow area m ds (key i) (take (i + 1) es) d → DueRow area m ds (key i) es d
    unfolding box.lock_of box.records_of
    row-end m {d} last v = subst (λ (l : List box.KeyLine). DueRow area m ds (key i) l d) (take-append-drop (i + 1) es) (due-end (drop (i + 1) es) v (go (ltb (i + 1) n) refl))
      where
        go : (t : Bool) → ltb (i + 1) n ≡ t → (box.lock_of (key i) (drop (i + 1) es) ≡ none) × (box.records_of (key i) (drop (i + 1) es) ≡ [])
        go true e =
            let g : i + 1 < st.load.lines = ltb-true _ _ e in
            rw (next g) (past-lines (key i) (line_of area (slot (i + 1))) (drop (suc (i + 1)) es) (subst (λ (l : List box.KeyLine). box.ordered box.before l ≡ true) (next g) (ordered-fewer box.before (fewer-drop (i + 1) es) (lines-order b))) (above g (last g)))
        go false e = let z = shown-past b.lines (line_of area) (i + 1) (ltb-false _ _ e) in rw z (refl, refl)

    keys-here : (i + 1 < st.load.lines → eq_bytes (key i) (key (i + 1)) ≡ false) → keys_of (drop i es) ≡ key i ∷ keys_of (drop (i + 1) es)
    keys-here last = go (ltb (i + 1) n) refl
      where
        go : (t : Bool) → ltb (i + 1) n ≡ t → keys_of (drop i es) ≡ key i ∷ keys_of (drop (i + 1) es)
        go true e =
            let g : i + 1 < st.load.lines = ltb-true _ _ e in
            ap keys_of (here ∙ ap (λ (l : List box.KeyLine). line_of area (slot i) ∷ l) (next g)) ∙ keys-last (line_of area (slot i)) (line_of area (slot (i + 1))) (drop (suc (i + 1)) es) (last g)
            ∙ ap (λ (l : List box.KeyLine). key i ∷ keys_of l) (sym (next g))
        go false e = let z = shown-past b.lines (line_of area) (i + 1) (ltb-false _ _ e) in ap keys_of (here ∙ ap (λ (l : List box.KeyLine). line_of area (slot i) ∷ l) z) ∙ keys-end (line_of area (slot i)) ∙ ap (λ (l : List box.KeyLine). key i ∷ keys_of l) (sym z)

    -- ---- whether the key's turn is yet to come

    module _ {w : Bool} (scan : Scan) (p : w ≡ waits_at area scan st i) where
      waits-more : w ≡ true → (scan ≡ Rows) × (i + 1 < st.load.lines) × (eq_bytes (key i) (key (i + 1)) ≡ true)
      waits-more e = go scan (sym p ∙ e)
        where
          go : (s : Scan) → waits_at area s st i ≡ true → (s ≡ Rows) × (i + 1 < st.load.lines) × (eq_bytes (key i) (key (i + 1)) ≡ true)
          go Rows z = let g : i + 1 < st.load.lines = ltb-true _ _ (and_left _ _ z) in (refl, g, and_right (ltb (i + 1) n) _ z)
          go Intents z = absurd (false≢true z)
          go Conflicts z = absurd (false≢true z)

      last-here : scan ≡ Rows → w ≡ false → i + 1 < st.load.lines → eq_bytes (key i) (key (i + 1)) ≡ false
      last-here r e g =
          sym (ap (λ (s : Scan). waits_at area s st i) r ∙ ap (λ (t : Bool). t && eq_bytes (key i) (key (i + 1))) (lt-ltb (i + 1) n g)) ∙ sym p ∙ e

    -- ---- by what is asked

    pub due-seen : (scan : Scan) (m : ℕ) (d : Due) → DueAt scan area m (box_of st area).defaults (key_of area (get_or st.lines i no_slot)) (take i (box_of st area).lines) d
        → DueAt scan area m (box_of st area).defaults (key_of area (get_or st.lines i no_slot)) (take (i + 1) (box_of st area).lines) (due_after scan m d (get_or st.lines i no_slot) (view_of area (get_or st.lines i no_slot)))
    due-seen Rows m d v = row_more m v
    due-seen Intents m d v = tt
    due-seen Conflicts m d v = tt

    -- the next line has the key too
    module _ (g : i + 1 < st.load.lines) where
      pub due-shared : (m : ℕ) {d : Due} → eq_bytes (key i) (key (i + 1)) ≡ true → DueRow area m ds (key i) (take (i + 1) es) d → DueRow area m ds (key (i + 1)) (take (i + 1) es) d
      due-shared m {d} e v = subst (λ (k : Key). DueRow area m ds k (take (i + 1) es) d) (eq_bytes-true (key i) (key (i + 1)) e) v

      pub left-shared : (m : ℕ) (lim : Limits) (a : Bounds) (count sum : ℕ) → eq_bytes (key i) (key (i + 1)) ≡ true → walk_by Rows m lim a (box_of st area) (drop i es) count sum ≡ walk_by Rows m lim a (box_of st area) (drop (i + 1) es) count sum
      left-shared m lim a count sum e =
          ap (λ (ks : List Key). page_on key_row_bytes (page_walk (read_key m (box_of st area)) row_cost lim (keys_within a ks) count sum))
          (ap keys_of (here ∙ ap (λ (l : List box.KeyLine). line_of area (slot i) ∷ l) (next g)) ∙ keys-shared (line_of area (slot i)) (line_of area (slot (i + 1))) (drop (suc (i + 1)) es) e ∙ ap keys_of (sym (next g)))

      -- a new key
      pub due-new : (scan : Scan) (m : ℕ) → (scan ≡ Rows → eq_bytes (key i) (key (i + 1)) ≡ false) → DueAt scan area m ds (key (i + 1)) (take (i + 1) es) no_due
      due-new Rows m e = due-none (rw one_more (none_before (key (i + 1)) (take i es) (line_of area (slot i)) in_order_lem (above g (e refl))))
      due-new Intents m e = tt
      due-new Conflicts m e = tt

    -- the turn that the line takes
    pub line-stepped : (scan : Scan) (m : ℕ) (lim : Limits) (a : Bounds) (count sum : ℕ) (d : Due) {t : Bool} → (scan ≡ Intents → sum + 600 ≤ lim.bytes) → (scan ≡ Rows → i + 1 < st.load.lines → eq_bytes (key i) (key (i + 1)) ≡ false)
        → DueAt scan area m ds (key i) (take i es) d → t ≡ in_bounds a (key i)
        → Stepped area (over_of scan) (walk_by scan m lim a (box_of st area) (drop i es)) (walk_by scan m lim a (box_of st area) (drop (i + 1) es)) count sum (turn_due t (due_after scan m d (slot i) (view_of area (slot i))) lim.rows lim.bytes count sum)
    line-stepped Rows m lim a count sum d {t} f last v e =
        subst
        (λ (ks : List Key).
        Stepped area 2 (λ c s. page_on key_row_bytes (page_walk (read_key m (box_of st area)) row_cost lim (keys_within a ks) c s)) (walk_by Rows m lim a (box_of st area) (drop (i + 1) es)) count sum
        (turn_due t (see_row m d (slot i) (view_of area (slot i))) lim.rows lim.bytes count sum))
        (sym (keys-here (last refl))) (row-stepped lim a (keys_of (drop (i + 1) es)) count sum form (row-end m (last refl) (row_more m v)) (sym e))
    line-stepped Intents m lim a count sum d {t} f last v e =
        subst (λ (l : List box.KeyLine). Stepped area 1 (walk_by Intents m lim a (box_of st area) l) (walk_by Intents m lim a (box_of st area) (drop (i + 1) es)) count sum (turn_due t (due_after Intents m d (slot i) (view_of area (slot i))) lim.rows lim.bytes count sum)) (sym here)
        (intent-stepped area (slot i) (slot-in b i h) form lim a m (drop (i + 1) es) count sum (f refl) (slot i).line refl sound t (sym e))
    line-stepped Conflicts m lim a count sum d {t} f last v e =
        subst (λ (l : List box.KeyLine). Stepped area 1 (walk_by Conflicts m lim a (box_of st area) l) (walk_by Conflicts m lim a (box_of st area) (drop (i + 1) es)) count sum (turn_due t (due_after Conflicts m d (slot i) (view_of area (slot i))) lim.rows lim.bytes count sum)) (sym here)
        (conflict-stepped area (slot i) (slot-in b i h) form lim a m (drop (i + 1) es) count sum (slot i).line refl sound t (sym e))

  -- no line is left
  pub left-none : (i : ℕ) → st.load.lines ≤ i → (scan : Scan) (m : ℕ) (lim : Limits) (a : Bounds) (count sum : ℕ) → walk_by scan m lim a (box_of st area) (drop i es) count sum ≡ empty_page false
  unfolding keys_of keys_within locks_of locks_within page_walk intent_walk page_on
  left-none i h scan m lim a count sum = ap (λ (l : List box.KeyLine). walk_by scan m lim a (box_of st area) l count sum) (shown-past b.lines (line_of area) i h) ∙ go scan
    where
      go : (s : Scan) → walk_by s m lim a (box_of st area) [] count sum ≡ empty_page false
      go Rows = refl
      go Intents = refl
      go Conflicts = refl

pub record Pass (st : Store) (area : Bytes) (q : PageQuery) (a : Bounds) (due : Due) (i count sum : ℕ) (slots : List Slot) : Type 0 where
  pub walking : Walking st.load.lines area (over_of q.scan) (walk_from q a (box_of st area) (box_of st area).lines 0 0) (walk_from q a (box_of st area) (drop i (box_of st area).lines)) i count sum slots
  pub dues : i < st.load.lines → DueAt q.scan area q.moment (box_of st area).defaults (key_of area (get_or st.lines i no_slot)) (take i (box_of st area).lines) due

module _ {st : Store} {area : Bytes} {q : PageQuery} (asks : WalkAsks st area q) (a : Bounds) where
  abbrev bx : box.Box
  bx = box_of st area

  abbrev at : ℕ → Slot
  at i = get_or st.lines i no_slot

  nothing-due : (scan : Scan) → DueAt scan area q.moment bx.defaults (key_of area (at 0)) (take 0 bx.lines) no_due
  unfolding box.lock_of box.records_of
  nothing-due Rows = due-none (refl, refl)
  nothing-due Intents = tt
  nothing-due Conflicts = tt

  pub pass-start : {none : Slot} {d : Due} → none ≡ no_slot → d ≡ no_due → Pass st area q a d 0 0 0 (replicate 1024 none)
  pass-start {none} {d} e f = record {
    walking = walking_start asks.built.lines.count_fits e refl;
    dues = λ h. subst (DueAt q.scan area q.moment bx.defaults (key_of area (at 0)) (take 0 bx.lines)) (sym f) (nothing-due q.scan);
  }

  module _ {d : Due} {i count sum : ℕ} {slots : List Slot} (w : Pass st area q a d i count sum slots) where
    pub pass-end : {r : Walked} → st.load.lines ≤ i → r ≡ record { answer = Accepted; more = false; count = count; size = sum + over_of q.scan * count + 3; slots = slots }
        → WalkedAs area (walk_from q a (box_of st area) (box_of st area).lines 0 0) r
    pass-end h p = walking-listed w.walking (left-none asks.built i h q.scan q.moment (limits_of q) a count sum) p

    module _ (h : i < st.load.lines) {line : LineView} {d' : Due} (e : line ≡ view_of area (get_or st.lines i no_slot)) (s : d' ≡ due_after q.scan q.moment d (get_or st.lines i no_slot) line) {t : Bool} (p : t ≡ waits_at area q.scan st i) where
      seen : d' ≡ due_after q.scan q.moment d (at i) (view_of area (at i))
      seen = s ∙ ap (due_after q.scan q.moment d (at i)) e

      pub pass-waits : t ≡ true → Pass st area q a d' (i + 1) count sum slots
      pass-waits f = let z = waits-more asks.built i h q.scan p f in record {
        walking = walking-pass w.walking h (left q.scan z.0 z.1 z.2);
        dues = λ g. go q.scan z.0 z.1 z.2 (subst (DueAt q.scan area q.moment bx.defaults (key_of area (at i)) (take (i + 1) bx.lines)) (sym seen) (due-seen asks.built i h q.scan q.moment d (w.dues h)));
      }
        where
          left : (sc : Scan) → sc ≡ Rows → i + 1 < st.load.lines → eq_bytes (key_of area (at i)) (key_of area (at (i + 1))) ≡ true
              → walk_by sc q.moment (limits_of q) a bx (drop i bx.lines) count sum ≡ walk_by sc q.moment (limits_of q) a bx (drop (i + 1) bx.lines) count sum
          left sc r g k =
              ap (λ (x : Scan). walk_by x q.moment (limits_of q) a bx (drop i bx.lines) count sum) r ∙ left-shared asks.built i h g q.moment (limits_of q) a count sum k
              ∙ sym (ap (λ (x : Scan). walk_by x q.moment (limits_of q) a bx (drop (i + 1) bx.lines) count sum) r)

          go : (sc : Scan) → sc ≡ Rows → i + 1 < st.load.lines → eq_bytes (key_of area (at i)) (key_of area (at (i + 1))) ≡ true
              → DueAt sc area q.moment bx.defaults (key_of area (at i)) (take (i + 1) bx.lines) d' → DueAt sc area q.moment bx.defaults (key_of area (at (i + 1))) (take (i + 1) bx.lines) d'
          go Rows r g k v = due-shared asks.built i h g q.moment k v
          go Intents r g k v = tt
          go Conflicts r g k v = tt

      module _ (f : t ≡ false) {inside : Bool} (o : inside ≡ in_bounds a (key_of area (get_or st.lines i no_slot))) {turn : Turn} (r : turn ≡ turn_due inside d' q.limit q.bytes count sum) where
        stepped : Stepped area (over_of q.scan) (walk_from q a bx (drop i bx.lines)) (walk_from q a bx (drop (i + 1) bx.lines)) count sum turn
        stepped =
            subst (Stepped area (over_of q.scan) (walk_from q a bx (drop i bx.lines)) (walk_from q a bx (drop (i + 1) bx.lines)) count sum) (sym (r ∙ ap (λ (x : Due). turn_due inside x q.limit q.bytes count sum) seen))
            (line-stepped asks.built i h q.scan q.moment (limits_of q) a count sum d (λ x. let v = w.walking in omega (arith, asks.large x)) (λ x. last-here asks.built i h q.scan p x f) (w.dues h) o)

        new : {z : Due} → z ≡ no_due → i + 1 < st.load.lines → DueAt q.scan area q.moment bx.defaults (key_of area (at (i + 1))) (take (i + 1) bx.lines) z
        new x g = subst (DueAt q.scan area q.moment bx.defaults (key_of area (at (i + 1))) (take (i + 1) bx.lines)) (sym x) (due-new asks.built i h g q.scan q.moment (λ y. last-here asks.built i h q.scan p y f g))

        pub pass_on : {z : Due} → z ≡ no_due → turn ≡ On → Pass st area q a z (i + 1) count sum slots
        pass_on x y = record { walking = turn_on w.walking stepped h y; dues = new x }

        pub pass-stop : {v : Walked} → turn ≡ Stop → v ≡ record { answer = Accepted; more = true; count = count; size = sum + over_of q.scan * count + 3; slots = slots }
            → WalkedAs area (walk_from q a (box_of st area) (box_of st area).lines 0 0) v
        pass-stop y u = turn-stop w.walking stepped y u

        pub pass-refuse : {v : Walked} {x : Answer} → turn ≡ Refuse x → v ≡ empty_of x → WalkedAs area (walk_from q a (box_of st area) (box_of st area).lines 0 0) v
        pass-refuse y u = turn-refuse w.walking stepped y u

        pub pass-add : {z : Due} {x : Slot} {cost : ℕ} → z ≡ no_due → turn ≡ Add x cost → Pass st area q a z (i + 1) (count + 1) (sum + cost) (set slots count x)
        pass-add z y = record { walking = turn-add w.walking stepped h y; dues = new z }
