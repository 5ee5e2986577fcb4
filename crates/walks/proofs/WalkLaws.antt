-- A judging walk over the lines, whatever it lists: what is listed so far, and what the lines to come say of it; and from the arguments and
-- the walk to the page.
-- Assumes nothing.
use Prim.Native.Nat.{ℕ, suc, ◌+◌, ◌*◌, ◌≤◌, ◌<◌}
use native.Mathlib.Nat.{mul-zero, mul-suc}
use native.Mathlib.Numerals.{add-one}
use native.Mathlib.Omega.{arith}
use mathlib.Core.Path.{◌≡◌, refl, sym, ap, ◌∙◌, subst}
use mathlib.Core.Bool.{Bool, true, false}
use mathlib.Core.List.{List, [], ◌∷◌, ◌++◌}
use lib.Dec.{leb}
use lib.ListN.{length, set, replicate, length-append}
use Rattle.seqs.specs.Tables as tables
use Rattle.seqs.proofs.Tables.{shown-added, table-added, table_empty}
use Rattle.forms.specs.Bytes.{Bytes}
use Rattle.forms.specs.Numbers.{digits}
use Rattle.forms.proofs.NumberLaws.{length_digits}
use Rattle.rules.specs.Answers.{Answer, Accepted, No, Held, Holder, Reply, shown, refused, if_passed, need, ◌▸◌}
use Rattle.rules.specs.Page.{Page, empty_page, on_page, Bounds, page_arguments, row_page_steps, intent_arguments, past_end, unless_past, page, intent_page, conflict_page}
use Rattle.rules.specs.Written.{all_bytes, more_byte, page_bytes}
use Rattle.rules.proofs.EntryWriterLaws.{bytes-snoc}
use Rattle.store.specs.declared.table.Slot.{Slot}
use Rattle.rules.proofs.FloorLaws.{page-above, page-on-0}
use Rattle.store.specs.View.{no_slot}
use Rattle.turns.specs.Turns.{Turn, On, Stop, Refuse, Add}
use Rattle.walks.specs.Walked.{Walked, entry_bytes, same, SlotIn, WalkedAs, empty_of, page_on, limits_of, page_by, page_asked, walk_by, walk_from, WalkAsks, turn_to, Refusal as Refuses}
use Rattle.turns.specs.Scans.{floor_of}
use borrow.Author.Tests.{ne_eqb, lt-leb}
use Rattle.rules.specs.Box.{Box}
use Rattle.rules.specs.declared.answers.Refusal.{Refusal}
use Rattle.rules.specs.Outcomes.{refusal}
use Rattle.rules.proofs.OutcomeLaws.{of-refusals}
use Rattle.store.specs.declared.table.Store.{Store}
use Rattle.turns.specs.declared.asked.PageQuery.{PageQuery}
use Rattle.turns.specs.declared.asked.Scan.{Scan}
use Rattle.turns.specs.declared.asked.Scan.TheVariants.{Rows, Intents, Conflicts}

-- ---- a page with these in front

unfoldable pub on_pages : List Bytes → Reply (Page Bytes) → Reply (Page Bytes)
on_pages [] r = r
on_pages (x ∷ xs) r = on_page x (on_pages xs r)

pages-snoc : (xs : List Bytes) (x : Bytes) (r : Reply (Page Bytes)) → on_pages (xs ++ (x ∷ [])) r ≡ on_pages xs (on_page x r)
unfolding on_pages
pages-snoc [] x r = refl
pages-snoc (y ∷ ys) x r = ap (on_page y) (pages-snoc ys x r)

pages-shown : (xs : List Bytes) (more : Bool) → on_pages xs (empty_page more) ≡ shown (record { rows = xs; more = more })
unfolding on_pages on_page
pages-shown [] more = refl
pages-shown (x ∷ xs) more = ap (on_page x) (pages-shown xs more)

pages-refused : (xs : List Bytes) (v : Answer) → on_pages xs (refused v) ≡ refused v
unfolding on_pages on_page
pages-refused [] v = refl
pages-refused (x ∷ xs) v = ap (on_page x) (pages-refused xs v)

-- ---- bytes

pub page-long : (p : Page Bytes) → length (page_bytes same p) ≡ length (all_bytes same p.rows) + 3
unfolding page_bytes
page-long p =
    length-append (digits 2 (length p.rows)) (all_bytes same p.rows ++ (more_byte p.more ∷ []))
    ∙ omega (arith, length_digits 2 (length p.rows), length-append (all_bytes same p.rows) (more_byte p.more ∷ []))

-- ---- no page, or an empty one without more

pub empty_walked : {area : Bytes} {want : Reply (Page Bytes)} {r : Walked} (v : Answer) → if_passed v (empty_page false) ≡ want → r ≡ empty_of v → WalkedAs area want r
unfolding tables.shown all_bytes
empty_walked {area} {want} v e p =
    subst (WalkedAs area want) (sym p)
    (record {
      is = e;
      size_is = λ z. sym (page-long (record { rows = tables.shown (entry_bytes area) 0 (replicate 1024 no_slot); more = false }));
      table = table_empty (SlotIn area) no_slot 1024;
    })

refused-walked : {area : Bytes} {want : Reply (Page Bytes)} {r : Walked} (v : Answer) → Refuses v → refused v ≡ want → r ≡ empty_of v → WalkedAs area want r
unfolding if_passed
refused-walked Accepted g e p = absurd g
refused-walked (No n) g e p = empty_walked (No n) e p
refused-walked (Held h) g e p = empty_walked (Held h) e p

-- ---- the walk

-- `want` is what the whole walk says; `left`, what the lines from i on say of a page of a count and a sum. Each entry has `over` bytes more
-- than its cost.
pub record Walking (n : ℕ) (area : Bytes) (over : ℕ) (want : Reply (Page Bytes)) (left : ℕ → ℕ → Reply (Page Bytes)) (i count sum : ℕ) (slots : List Slot) : Type 0 where
  pub low : i ≤ n
  pub most : n ≤ 1024
  pub count_fits : count ≤ i
  pub small : sum ≤ 600 * count
  pub is : want ≡ on_pages (tables.shown (entry_bytes area) count slots) (left count sum)
  pub size : length (all_bytes same (tables.shown (entry_bytes area) count slots)) ≡ sum + over * count
  pub table : tables.Table (SlotIn area) no_slot 1024 count slots

-- what a turn that adds an entry must say of it, and one that refuses
pub record AddFits (area : Bytes) (over : ℕ) (s : Slot) (cost : ℕ) : Type 0 where
  pub within : SlotIn area s
  pub cheap : cost ≤ 600
  pub size : length (entry_bytes area s) ≡ cost + over

abbrev pub TurnGood : Bytes → ℕ → Turn → Type 0
TurnGood area over On = Unit {0}
TurnGood area over Stop = Unit {0}
TurnGood area over (Refuse v) = Refuses v
TurnGood area over (Add s cost) = AddFits area over s cost

-- the turn that the line at i takes
pub record Stepped (area : Bytes) (over : ℕ) (left left' : ℕ → ℕ → Reply (Page Bytes)) (count sum : ℕ) (t : Turn) : Type 0 where
  pub is : left count sum ≡ turn_to area left' count sum t
  pub good : TurnGood area over t

module _ {n : ℕ} {area : Bytes} {over : ℕ} {want : Reply (Page Bytes)} where
  pub walking_start : {left : ℕ → ℕ → Reply (Page Bytes)} → n ≤ 1024 → {none : Slot} → none ≡ no_slot → want ≡ left 0 0 → Walking n area over want left 0 0 0 (replicate 1024 none)
  unfolding tables.shown on_pages all_bytes
  walking_start h {none} q e = record {
    low = omega arith;
    most = h;
    count_fits = omega arith;
    small = omega arith;
    is = e;
    size = omega (arith, mul-zero over);
    table = subst (λ (s : Slot). tables.Table (SlotIn area) no_slot 1024 0 (replicate 1024 s)) (sym q) (table_empty (SlotIn area) no_slot 1024);
  }

  module _ {left : ℕ → ℕ → Reply (Page Bytes)} {i count sum : ℕ} {slots : List Slot} (w : Walking n area over want left i count sum slots) where
    abbrev rows : List Bytes
    rows = tables.shown (entry_bytes area) count slots

    -- passed over
    pub walking-pass : {left' : ℕ → ℕ → Reply (Page Bytes)} → i < n → left count sum ≡ left' count sum → Walking n area over want left' (i + 1) count sum slots
    walking-pass h e = record {
      low = omega arith;
      most = w.most;
      count_fits = omega (arith, w.count_fits);
      small = w.small;
      is = w.is ∙ ap (on_pages rows) e;
      size = w.size;
      table = w.table;
    }

    -- the page as it stands
    pub walking-listed : {r : Walked} {more : Bool} → left count sum ≡ empty_page more → r ≡ record { answer = Accepted; more = more; count = count; size = sum + over * count + 3; slots = slots } → WalkedAs area want r
    unfolding if_passed
    walking-listed {r} {more} e p =
        subst (WalkedAs area want) (sym p)
        (record {
          is = sym (w.is ∙ ap (on_pages rows) e ∙ pages-shown rows more);
          size_is = λ a. omega (arith, w.size, page-long (record { rows = rows; more = more }));
          table = w.table;
        })

    -- ---- by the turn that the line takes
    module _ {left' : ℕ → ℕ → Reply (Page Bytes)} {t : Turn} (s : Stepped area over left left' count sum t) where
      turned : {u : Turn} → t ≡ u → left count sum ≡ turn_to area left' count sum u
      turned e = s.is ∙ ap (turn_to area left' count sum) e

      pub turn_on : i < n → t ≡ On → Walking n area over want left' (i + 1) count sum slots
      turn_on h e = walking-pass h (turned e)

      pub turn-stop : {r : Walked} → t ≡ Stop → r ≡ record { answer = Accepted; more = true; count = count; size = sum + over * count + 3; slots = slots } → WalkedAs area want r
      turn-stop e p = walking-listed (turned e) p

      pub turn-refuse : {r : Walked} {v : Answer} → t ≡ Refuse v → r ≡ empty_of v → WalkedAs area want r
      turn-refuse {r} {v} e p = refused-walked v (subst (TurnGood area over) e s.good) (sym (w.is ∙ ap (on_pages rows) (turned e) ∙ pages-refused rows v)) p

      pub turn-add : {p : Slot} {cost : ℕ} → i < n → t ≡ Add p cost → Walking n area over want left' (i + 1) (count + 1) (sum + cost) (set slots count p)
      turn-add {p} {cost} h e = record {
        low = omega arith;
        most = w.most;
        count_fits = omega (arith, w.count_fits);
        small = omega (arith, w.small, fit.cheap);
        is =
            w.is ∙ ap (on_pages rows) (turned e)
            ∙ sym (ap (λ (z : ℕ). on_pages (tables.shown (entry_bytes area) (count + 1) (set slots count p)) (left' z (sum + cost))) (add-one count)
            ∙ ap (λ (xs : List Bytes). on_pages xs (left' (suc count) (sum + cost))) more ∙ pages-snoc rows (entry_bytes area p) (left' (suc count) (sum + cost)));
        size =
            ap (λ (xs : List Bytes). length (all_bytes same xs)) more ∙ ap length (bytes-snoc same rows (entry_bytes area p)) ∙ length-append (all_bytes same rows) (entry_bytes area p)
            ∙ omega (arith, w.size, fit.size, ap (λ (z : ℕ). over * z) (add-one count), mul-suc over count);
        table = table-added w.table p fit.within room;
      }
        where
          fit : AddFits area over p cost
          fit = subst (TurnGood area over) e s.good

          room : count < 1024
          room = omega (arith, w.count_fits, w.most)

          more : tables.shown (entry_bytes area) (count + 1) (set slots count p) ≡ rows ++ (entry_bytes area p ∷ [])
          more = shown-added (entry_bytes area) slots count p (omega (arith, w.table.length_is, room))

steps_on : {A : Type 0} (f : A → Bytes) (v : Answer) (past : Bool) (r : Reply (Page A)) → page_on f (if_passed v (unless_past past r)) ≡ if_passed v (unless_past past (page_on f r))
unfolding page_on if_passed unless_past
steps_on f Accepted true r = refl
steps_on f Accepted false r = refl
steps_on f (No n) past r = refl
steps_on f (Held h) past r = refl

-- "Page's argument checks without byte limit": none that is 0. A page of locks is one on the floor 0.
module _ {st : Store} {area : Bytes} {q : PageQuery} (asks : WalkAsks st area q) (a : Bounds) (b : Box) where
  abbrev floor : ℕ
  floor = floor_of q.scan st.floor

  abbrev steps : Answer
  steps = row_page_steps floor q.moment q.limit q.bytes a

  page-steps : page_asked st.floor q a b ≡ if_passed steps (unless_past (past_end a.resume a.to) (walk_from q a b b.lines 0 0))
  unfolding page intent_page conflict_page page_arguments intent_arguments ◌▸◌ need
  page-steps = go q.scan asks.large
    where
      -- without a floor
      freed : (s : Scan) (v : Answer) → v ≡ page_arguments q.limit q.bytes a
          → if_passed v (unless_past (past_end a.resume a.to) (walk_by s q.moment (limits_of q) a b b.lines 0 0))
          ≡ if_passed (row_page_steps 0 q.moment q.limit q.bytes a) (unless_past (past_end a.resume a.to) (walk_by s q.moment (limits_of q) a b b.lines 0 0))
      freed s v e = ap (λ (x : Answer). if_passed x (unless_past (past_end a.resume a.to) (walk_by s q.moment (limits_of q) a b b.lines 0 0))) (e ∙ sym (page-on-0 q.moment q.limit q.bytes a))

      go : (s : Scan) → (s ≡ Intents → 1048576 ≤ q.bytes)
          → page_by st.floor s q.moment (limits_of q) a b ≡ if_passed (row_page_steps (floor_of s st.floor) q.moment q.limit q.bytes a) (unless_past (past_end a.resume a.to) (walk_by s q.moment (limits_of q) a b b.lines 0 0))
      go Rows h = steps_on _ (row_page_steps st.floor q.moment q.limit q.bytes a) (past_end a.resume a.to) _
      go Intents h = steps_on _ (intent_arguments q.limit a) (past_end a.resume a.to) _ ∙ freed Intents (intent_arguments q.limit a) (sym (rw (ne_eqb q.bytes 0 (λ e. omega (arith, h refl)))))
      go Conflicts h = steps_on _ (page_arguments q.limit q.bytes a) (past_end a.resume a.to) _ ∙ freed Conflicts (page_arguments q.limit q.bytes a) refl

  by : (u : Answer) (r : Reply (Page Bytes)) → steps ≡ u → if_passed u r ≡ if_passed u (unless_past (past_end a.resume a.to) (walk_from q a b b.lines 0 0)) → if_passed u r ≡ page_asked st.floor q a b
  by u r f g = g ∙ ap (λ (x : Answer). if_passed x (unless_past (past_end a.resume a.to) (walk_from q a b b.lines 0 0))) (sym f) ∙ sym page-steps

  module _ {v : Answer} (e : v ≡ page_arguments q.limit q.bytes a) where
    -- by what the arguments answer
    steps-by : {u : Answer} → v ≡ u → steps ≡ u ▸ need (leb floor q.moment) 14
    unfolding row_page_steps
    steps-by f = ap (λ (x : Answer). x ▸ need (leb floor q.moment) 14) (sym e ∙ f)

    pub judge-no : {n : ℕ} {r : Walked} → v ≡ No n → r ≡ empty_of (No n) → WalkedAs area (page_asked st.floor q a b) r
    unfolding if_passed ◌▸◌
    judge-no {n} f p = empty_walked (No n) (by _ (empty_page false) (steps-by f) refl) p

    pub judge-held : {h : Holder} {r : Walked} → v ≡ Held h → r ≡ empty_of (Held h) → WalkedAs area (page_asked st.floor q a b) r
    unfolding if_passed ◌▸◌
    judge-held {h} f p = empty_walked (Held h) (by _ (empty_page false) (steps-by f) refl) p

    pub judge-refused : (r : Refusal) {w : Walked} → v ≡ refusal r → w ≡ empty_of (refusal r) → WalkedAs area (page_asked st.floor q a b) w
    judge-refused r {w} = of-refusals (λ (x : Answer). v ≡ x → w ≡ empty_of x → WalkedAs area (page_asked st.floor q a b) w) (λ n f p. judge-no f p) (λ h f p. judge-held f p) r

    module _ (f : v ≡ Accepted) {fl : ℕ} (z : fl ≡ floor) where
      -- "14, below the floor"
      pub judge-below : {r : Walked} → q.moment < fl → r ≡ empty_of (No 14) → WalkedAs area (page_asked st.floor q a b) r
      unfolding if_passed ◌▸◌ need
      judge-below h p = empty_walked (No 14) (by (No 14) (empty_page false) (steps-by f ∙ rw (lt-leb floor q.moment (omega (arith, z)))) refl) p

      module _ (above : fl ≤ q.moment) {t : Bool} (g : t ≡ past_end a.resume a.to) where
        past_is : {u : Bool} → t ≡ u → unless_past u (walk_from q a b b.lines 0 0) ≡ page_asked st.floor q a b
        unfolding if_passed
        past_is {u} h =
            by Accepted (unless_past u (walk_from q a b b.lines 0 0)) (page-above floor q.moment q.limit q.bytes a (omega (arith, z)) ∙ sym e ∙ f)
            (ap (λ (x : Bool). unless_past x (walk_from q a b b.lines 0 0)) (sym h ∙ g))

        -- "resume at or past end, empty page without more"
        pub judge-past : {r : Walked} → t ≡ true → r ≡ empty_of Accepted → WalkedAs area (page_asked st.floor q a b) r
        unfolding if_passed unless_past
        judge-past h p = empty_walked Accepted (past_is h) p

        pub judge-walk : {r : Walked} → t ≡ false → WalkedAs area (walk_from q a b b.lines 0 0) r → WalkedAs area (page_asked st.floor q a b) r
        unfolding unless_past
        judge-walk {r} h w = subst (λ (x : Reply (Page Bytes)). WalkedAs area x r) (past_is h) w
