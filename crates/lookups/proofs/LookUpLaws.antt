-- The loops of the lookup: the search by halves for the place of the key's first line (`first_line`), and the walk over the key's lines from there
-- (`look_up`), where lock and history are those of the lines passed.
-- Assumes nothing.
use Prim.Native.Nat.{ℕ, zero, suc, ◌+◌, ◌-◌, ◌/◌, ◌^◌, ◌≤◌, ◌<◌}
use native.Mathlib.Nat.{pow-zero, pow-suc}
use native.Mathlib.Omega.{arith}
use native.Mathlib.Numerals.{add-one}
use mathlib.Core.Path.{◌≡◌, refl, sym, ap, ap₂, ◌∙◌, subst}
use mathlib.Core.Logic.{◌⊎◌, inl, inr}
use mathlib.Core.Bool.{Bool, true, false}
use mathlib.Core.List.{List, [], ◌∷◌, ◌++◌, append-nil}
use mathlib.Core.Option.{Option, none, some}
use lib.Dec.{ltb, leb}
use lib.ListN.{length, get_or, take, drop, take-append-drop}
use lib.Seq.{take-suc}
use borrow.Author.Tests.{ltb-true, ltb-false, le-ltb}
use Rattle.seqs.specs.Tables.{All, shown}
use Rattle.seqs.proofs.Alls.{all-at}
use Rattle.seqs.proofs.Tables.{shown-length, shown-at, shown-drop, shown-past}
use Rattle.forms.specs.Bytes.{Bytes, cmp, is_less, is_equal, eq_bytes, lt_bytes}
use Rattle.forms.specs.Key.{Key}
use Rattle.forms.specs.Numbers.{either_if}
use Rattle.std.specs.declared.cmp.Ordering.{Ordering}
use Rattle.std.specs.declared.cmp.Ordering.TheVariants.{Less, Equal, Greater}
use Rattle.forms.proofs.Orders.{eq_bytes-sym, eq_bytes-true, lt_bytes-else, lt_bytes-not-eq'}
use Rattle.rules.specs.declared.records.Record.{Record}
use Rattle.rules.specs.Box as box
use Rattle.rules.specs.Box.{start_of, kind_in}
use Rattle.rules.specs.declared.records.Kind.TheVariants.{Put, Rollback}
use Rattle.rules.specs.Calls.{record_for}
use Rattle.rules.specs.Read.{keep_if, those}
use Rattle.laws.specs.Places.{lines_before}
use Rattle.laws.proofs.Sorted.{In, fewer-drop, ordered-fewer}
use Rattle.laws.proofs.BoxOrder.{before-trans, before-irrefl, before_same, before-not-above}
use Rattle.laws.proofs.PlaceLaws.{how_many-le, at_place, before-down, take-place}
use Rattle.laws.proofs.KeyPlaces.{below-down}
use Rattle.laws.proofs.LinePlaces.{line-below, past-lines, record-place}
use Rattle.store.proofs.MemberLaws.{fewer-take, lock-shown}
use Rattle.store.specs.declared.table.Slot.{Slot}
use Rattle.store.specs.declared.table.LockSlot.{LockSlot}
use Rattle.store.specs.declared.table.Store.{Store}
use Rattle.store.specs.declared.table.Line.{Line}
use Rattle.store.specs.declared.table.Line.TheVariants.{Standing, Finished}
use Rattle.store.specs.declared.views.LineView.{LineView}
use Rattle.lookups.specs.declared.lookup.KeyState.{KeyState}
use Rattle.store.specs.View.{eight_at, line_in, place_of, past, row_len, key_of, line_of, default_in, stored, no_slot}
use Rattle.store.specs.Made.{SlotBelow, Built}
use Rattle.store.specs.Views.{view_in, view_of, RowThere}
use Rattle.lookups.specs.KeyStates.{locked_by, nothing_at, see_line, LockThere, HistoryAt, stamp_line, record_place, KeyStateAt}
use Rattle.store.proofs.BuiltLaws.{es, ds, slot, slot-in, lines-order, same, inside, row-there}
use Rattle.lookups.proofs.HistoryLaws.{history-none, history-more, examined-few, records-append, or_lock, lock-append}

-- p is the lesser of i and n
pub record Lesser (i n p : ℕ) : Type 0 where
  pub before : i ≤ n → p ≡ i
  pub after : n ≤ i → p ≡ n

lesser-more : {i n : ℕ} → i < n → Lesser (i + 1) n (i + 1)
lesser-more h = record { before = λ _. refl; after = λ g. omega arith }

lesser-same : {i n p : ℕ} → n ≤ i → Lesser i n p → Lesser (i + 1) n p
lesser-same h l = record { before = λ g. absurd (omega arith); after = λ g. l.after h }

lesser-either : {i n p : ℕ} (t : Bool) → t ≡ ltb i n → Lesser i n p → Lesser (i + 1) n (either_if t (i + 1) p)
lesser-either true e l = lesser-more (ltb-true _ _ (sym e))
lesser-either false e l = lesser-same (ltb-false _ _ (sym e)) l

-- a range that is not empty has a round left
pub round-left : (rounds : ℕ) {d : ℕ} → d < 2 ^ rounds → 0 < d → 0 < rounds
round-left zero f g = absurd (omega (arith, f, g, pow-zero 2))
round-left (suc r) f g = omega arith

-- "shall halve its range": for half of the range, or less, one round fewer suffices
pub half-fits : (rounds : ℕ) {d rest : ℕ} → d < 2 ^ rounds → 0 < d → rest ≤ d / 2 → rest < 2 ^ (rounds - 1)
half-fits zero f g h = absurd (omega (arith, round-left zero f g))
half-fits (suc r) {rest} f g h = let e : r ≡ suc r - 1 = omega arith in subst (λ (n : ℕ). rest < 2 ^ n) e (omega (arith, f, h, pow-suc 2 r))

-- a key that is below another or above it is not that key
pub other-order : {o p : Ordering} → o ≡ p → (o ≡ Less) ⊎ (o ≡ Greater) → is_equal p ≡ false
other-order e (inl q) = ap is_equal (sym e ∙ q)
other-order e (inr q) = ap is_equal (sym e ∙ q)

-- the search: the place of the key's first line is at least `low` and at most `high`
pub record Halving (area key : Bytes) (slots : List Slot) (n low high : ℕ) : Type 0 where
  pub from : low ≤ lines_before key (shown (line_of area) n slots)
  pub to : lines_before key (shown (line_of area) n slots) ≤ high
  pub count_fits : high ≤ n

-- the walk: what was seen is what the lines before `i` say of the key; `i` is its first place or past it
pub record Looking (area key : Bytes) (start stamp : ℕ) (slots : List Slot) (n i : ℕ) (seen : KeyState) : Type 0 where
  pub low : i ≤ n
  pub from : lines_before key (shown (line_of area) n slots) ≤ i
  pub first_is : seen.first ≡ lines_before key (shown (line_of area) n slots)
  pub place_is : Lesser i (record_place key stamp (shown (line_of area) n slots)) seen.place
  pub count_fits : seen.history.examined ≤ i
  pub lock_is : locked_by area seen.lock ≡ box.lock_of key (take i (shown (line_of area) n slots))
  pub lock_there : (t : ℕ) → All (SlotBelow t) (take n slots) → LockThere t area (stored (shown (default_in area) n slots)) key seen.lock
  pub history : (t : ℕ) → All (SlotBelow t) (take n slots) → HistoryAt t area (stored (shown (default_in area) n slots)) key start stamp (box.records_of key (take i (shown (line_of area) n slots))) seen.history

or-none : (o : Option box.Lock) → or_lock o none ≡ o
or-none none = refl
or-none (some l) = refl

in-last : {A : Type 0} (x : A) (xs : List A) → In x (xs ++ x ∷ [])
in-last x [] = inl refl
in-last x (y ∷ ys) = inr (in-last x ys)

-- lines of keys below say nothing of the key
none_below : (k : Key) (es : List box.KeyLine) → (box.lock_of k (those (λ (e : box.KeyLine). lt_bytes e.key k) es) ≡ none) × (box.records_of k (those (λ (e : box.KeyLine). lt_bytes e.key k) es) ≡ [])
unfolding those keep_if box.lock_of box.records_of box.add_lock box.add_record
none_below k [] = (refl, refl)
none_below k (e ∷ es) = go (lt_bytes e.key k) refl (none_below k es)
  where
    below : List box.KeyLine
    below = those (λ e. lt_bytes e.key k) es

    go : (t : Bool) → lt_bytes e.key k ≡ t → (box.lock_of k below ≡ none) × (box.records_of k below ≡ []) → (box.lock_of k (keep_if t e below) ≡ none) × (box.records_of k (keep_if t e below) ≡ [])
    go true p ih = let n : eq_bytes k e.key ≡ false = lt_bytes-not-eq' e.key k p in (rw n ih.0, rw n ih.1)
    go false p ih = ih

module _ {st : Store} {area : Bytes} (b : Built st area) (k : Key) where
  abbrev first : ℕ
  first = lines_before k (es b)

  first-in : first ≤ st.load.lines
  first-in = omega (arith, how_many-le (λ (e : box.KeyLine). lt_bytes e.key k) (es b), shown-length b.lines (line_of area))

  module _ (i : ℕ) (l : i < st.load.lines) where
    within : i < length (es b)
    within = omega (arith, shown-length b.lines (line_of area))

    at_here : get_or (es b) i (line_of area no_slot) ≡ line_of area (slot b i)
    at_here = shown-at b.lines (line_of area) i l

    below-here : lt_bytes (key_of area (slot b i)) k ≡ ltb i first
    below-here = ap (λ (x : box.KeyLine). lt_bytes x.key k) (sym at_here) ∙ line-below k (es b) (lines-order b) i (line_of area no_slot) within

  pub halving-start : Halving area k st.lines st.load.lines 0 st.load.lines
  halving-start = record { from = omega arith; to = first-in; count_fits = omega arith }

  -- any place of the range may be compared
  module _ (mid : ℕ) {low high : ℕ} (v : Halving area k st.lines st.load.lines low high) (from : low ≤ mid) (to : mid < high) where
    pub mid-in : mid < st.load.lines
    mid-in = omega (arith, v.count_fits)

    pub key-in : place_of (slot b mid) + (slot b mid).len ≤ length area
    key-in = omega (arith, slot-in b mid mid-in)

    pub halving-up : is_less (cmp (key_of area (slot b mid)) k) ≡ true → Halving area k st.lines st.load.lines (mid + 1) high
    unfolding lt_bytes
    halving-up c = record { from = omega (arith, ltb-true mid first (sym (below-here mid mid-in) ∙ c)); to = v.to; count_fits = v.count_fits }

    pub halving-down : is_less (cmp (key_of area (slot b mid)) k) ≡ false → Halving area k st.lines st.load.lines low mid
    unfolding lt_bytes
    halving-down c = record { from = v.from; to = ltb-false mid first (sym (below-here mid mid-in) ∙ c); count_fits = omega (arith, mid-in) }

module _ {st : Store} {area : Bytes} (b : Built st area) (k : Key) (start stamp : ℕ) where
  -- where the search ends, the walk begins
  nothing_seen : {low : ℕ} → low ≡ first b k → Looking area k start stamp st.lines st.load.lines low (nothing_at low)
  nothing_seen {low} f =
      let p = record-place k (record_for 0 stamp Put) (es b) (lines-order b) in
      let t : take low (es b) ≡ those (λ (x : box.KeyLine). lt_bytes x.key k) (es b) = ap (λ (n : ℕ). take n (es b)) f ∙ take-place box.before (λ (x : box.KeyLine). lt_bytes x.key k) (below-down (λ (x : box.KeyLine). x.key) box.before before-not-above k) (es b) (lines-order b) in
      record {
        low = omega (arith, f, first-in b k);
        from = omega (arith, f);
        first_is = f;
        place_is = record { before = λ _. refl; after = λ g. omega (arith, p, f) };
        count_fits = omega arith;
        lock_is = sym (ap (box.lock_of k) t ∙ (none_below k (es b)).0);
        lock_there = λ t a. tt;
        history = λ top a.
            subst (λ (ws : List Record). HistoryAt top area (ds b) k start stamp ws (nothing_at low).history) (sym (ap (box.records_of k) t ∙ (none_below k (es b)).1)) history-none;
      }

  pub looking-start : {low : ℕ} {seen : KeyState} → low ≡ first b k → seen ≡ nothing_at low → Looking area k start stamp st.lines st.load.lines low seen
  looking-start {low} f q = subst (Looking area k start stamp st.lines st.load.lines low) (sym q) (nothing_seen f)

  module _ {i : ℕ} {seen : KeyState} (w : Looking area k start stamp st.lines st.load.lines i seen) where
    -- the walk ends: what follows says nothing of the key
    ended : record_place k stamp (es b) ≤ i → (box.lock_of k (drop i (es b)) ≡ none) × (box.records_of k (drop i (es b)) ≡ []) → KeyStateAt st area k start stamp seen
    ended p n = record {
      first_is = w.first_is;
      place_is = w.place_is.after p;
      lock_is = w.lock_is ∙ sym (ap (box.lock_of k) (sym (take-append-drop i (es b))) ∙ lock-append k (take i (es b)) (drop i (es b)) ∙ ap (or_lock (box.lock_of k (take i (es b)))) n.0 ∙ or-none (box.lock_of k (take i (es b))));
      lock_there = w.lock_there st.top b.lines.holds;
      history =
          subst (λ (ws : List Record). HistoryAt st.top area (ds b) k start stamp ws seen.history)
          (sym (ap (box.records_of k) (sym (take-append-drop i (es b))) ∙ records-append k (take i (es b)) (drop i (es b)) ∙ ap (λ (l : List Record). box.records_of k (take i (es b)) ++ l) n.1 ∙ append-nil (box.records_of k (take i (es b)))))
          (w.history st.top b.lines.holds);
    }

    pub looking-end : st.load.lines ≤ i → KeyStateAt st area k start stamp seen
    unfolding box.lock_of box.records_of
    looking-end h =
        let n = shown-length b.lines (line_of area) in
        ended (omega (arith, how_many-le (λ (e : box.KeyLine). box.before e (stamp_line k stamp)) (es b)))
        (ap (box.lock_of k) (shown-past b.lines (line_of area) i h), ap (box.records_of k) (shown-past b.lines (line_of area) i h))

    module _ (l : i < st.load.lines) where
      abbrev here : Slot
      here = slot b i

      abbrev e : box.KeyLine
      e = line_of area here

      stamp-here : box.before e (stamp_line k stamp) ≡ ltb i (record_place k stamp (es b))
      stamp-here =
          ap (λ (x : box.KeyLine). box.before x (stamp_line k stamp)) (sym (at_here b k i l))
          ∙ at_place box.before (λ (x : box.KeyLine). box.before x (stamp_line k stamp)) (before-down box.before before-trans before-irrefl (stamp_line k stamp)) (es b) i (line_of area no_slot) (lines-order b) (within b k i l)

      one_more : take (i + 1) (es b) ≡ take i (es b) ++ e ∷ []
      one_more = ap (λ (n : ℕ). take n (es b)) (add-one i) ∙ take-suc (es b) i (line_of area no_slot) (within b k i l) ∙ ap (λ (x : box.KeyLine). take i (es b) ++ x ∷ []) (at_here b k i l)

      -- no line of the key: the walk is past its last
      pub looking-other : is_equal (cmp (key_of area (slot b i)) k) ≡ false → KeyStateAt st area k start stamp seen
      unfolding eq_bytes
      looking-other c =
          let a : lt_bytes k e.key ≡ true = lt_bytes-else e.key k c (below-here b k i l ∙ le-ltb i (lines_before k (es b)) w.from) in
          ended (ltb-false _ _ (sym stamp-here ∙ not-before a (box.before e (stamp_line k stamp)) refl))
          (rw (shown-drop b.lines (line_of area) i l) (past-lines k e (drop (suc i) (es b)) (subst (λ (v : List box.KeyLine). box.ordered box.before v ≡ true) (shown-drop b.lines (line_of area) i l) (ordered-fewer box.before (fewer-drop i (es b)) (lines-order b))) a))
        where
          not-before : lt_bytes k e.key ≡ true → (t : Bool) → box.before e (stamp_line k stamp) ≡ t → t ≡ false
          not-before a true h = sym a ∙ before-not-above e (stamp_line k stamp) h
          not-before a false h = refl

      module _ (c : cmp (key_of area (slot b i)) k ≡ Equal) where
        own : eq_bytes e.key k ≡ true
        unfolding eq_bytes
        own = ap is_equal c

        own' : eq_bytes k e.key ≡ true
        own' = eq_bytes-sym k e.key ∙ own

        records-more : (x : box.Line) → e.line ≡ x → box.records_of k (take (i + 1) (es b)) ≡ box.records_of k (take i (es b)) ++ box.add_record true x []
        unfolding box.records_of
        records-more x q = ap (box.records_of k) one_more ∙ records-append k (take i (es b)) (e ∷ []) ∙ ap₂ (λ (t : Bool) (y : box.Line). box.records_of k (take i (es b)) ++ box.add_record t y []) own' q

        lock-more : (x : box.Line) → e.line ≡ x → box.lock_of k (take (i + 1) (es b)) ≡ or_lock (box.lock_of k (take i (es b))) (box.add_lock true x none)
        unfolding box.lock_of
        lock-more x q = ap (box.lock_of k) one_more ∙ lock-append k (take i (es b)) (e ∷ []) ∙ ap₂ (λ (t : Bool) (y : box.Line). or_lock (box.lock_of k (take i (es b))) (box.add_lock t y none)) own' q

        -- how the line stands to a record with the stamp
        stands : (x : box.Line) → e.line ≡ x → box.line_before x (stamp_line k stamp).line ≡ ltb i (record_place k stamp (es b))
        stands x q = sym (before_same e (stamp_line k stamp) own ∙ ap (λ (y : box.Line). box.line_before y (stamp_line k stamp).line) q) ∙ stamp-here

        module _ (top : ℕ) (a : All (SlotBelow top) (take st.load.lines st.lines)) where
          row_here : (x : Line) → here.line ≡ x → RowThere top area (ds b) k (start_of (line_in area (place_of here + here.len) x)) (kind_in (line_in area (place_of here + here.len) x)) (place_of here + here.len + 8 + 8) (row_len x)
          row_here x q =
              subst (λ (j : Key). RowThere top area (ds b) j (start_of (line_in area (place_of here + here.len) x)) (kind_in (line_in area (place_of here + here.len) x)) (place_of here + here.len + 8 + 8) (row_len x)) (eq_bytes-true e.key k own)
              (subst (λ (y : Line). RowThere top area (ds b) e.key (start_of (line_in area (place_of here + here.len) y)) (kind_in (line_in area (place_of here + here.len) y)) (place_of here + here.len + 8 + 8) (row_len y)) q (row-there b i l top a))

          primary-here : (h : LockSlot) → here.line ≡ Standing h → place_of here + here.len + 8 + 8 + h.rowlen + 8 + h.plen ≤ top
          primary-here h q =
              let s : SlotBelow top (slot b i) = subst (SlotBelow top) (same b i l) (all-at (SlotBelow top) no_slot (take st.load.lines st.lines) i a (inside b i l)) in
              omega (arith, s.below, ap past q)

        seen-line : (x : Line) → here.line ≡ x → Looking area k start stamp st.lines st.load.lines (i + 1) (see_line start stamp (i + 1) seen (view_in area (place_of here + here.len) x))
        unfolding box.add_lock box.add_record
        seen-line (Standing h) q =
            let y : box.Line = line_in area (place_of here + here.len) (Standing h) in
            let q' : e.line ≡ y = ap (line_in area (place_of here + here.len)) q in
            record {
              low = omega arith;
              from = omega (arith, w.from);
              first_is = w.first_is;
              place_is = lesser-more (ltb-true _ _ (sym (stands y q')));
              count_fits = omega (arith, w.count_fits);
              lock_is = sym (lock-shown k (take (i + 1) (es b)) _ (ordered-fewer box.before (fewer-take (i + 1) (es b)) (lines-order b)) (rw one_more (subst (λ (x : box.KeyLine). In x (take i (es b) ++ e ∷ [])) (λ j. record { key = eq_bytes-true e.key k own j; line = q' j }) (in-last e (take i (es b))))));
              lock_there = λ t a. record { primary_in = primary-here t a h q; row = row_here t a (Standing h) q };
              history = λ t a.
                  subst (λ (ws : List Record). HistoryAt t area (ds b) k start stamp ws seen.history) (sym (records-more y q' ∙ append-nil (box.records_of k (take i (es b))))) (w.history t a);
            }
        seen-line (Finished v) q =
            let y : box.Line = line_in area (place_of here + here.len) (Finished v) in
            let q' : e.line ≡ y = ap (line_in area (place_of here + here.len)) q in
            record {
              low = omega arith;
              from = omega (arith, w.from);
              first_is = w.first_is;
              place_is = lesser-either _ (stands y q') w.place_is;
              count_fits = omega (arith, w.count_fits, examined-few (leb (eight_at area (place_of here + here.len)) stamp) (box.eq_kind v.kind Rollback) seen.history.examined);
              lock_is = w.lock_is ∙ sym (lock-more y q' ∙ or-none (box.lock_of k (take i (es b))));
              lock_there = w.lock_there;
              history = λ t a.
                  subst (λ (ws : List Record). HistoryAt t area (ds b) k start stamp ws (see_line start stamp (i + 1) seen (view_in area (place_of here + here.len) (Finished v))).history) (sym (records-more y q'))
                  (history-more _ (row_here t a (Finished v) q) (w.history t a));
            }

        pub looking-equal : {t : LineView} {r : KeyState} → t ≡ view_of area (slot b i) → r ≡ see_line start stamp (i + 1) seen t → Looking area k start stamp st.lines st.load.lines (i + 1) r
        looking-equal p q = subst (Looking area k start stamp st.lines st.load.lines (i + 1)) (sym (q ∙ ap (see_line start stamp (i + 1) seen) p)) (seen-line here.line refl)
