-- The sections of a page; from a judged page to the answer, the count and the whole buffer; and that no second answer fits.
-- Assumes nothing.
use Prim.Native.Nat.{ℕ, ◌+◌, ◌-◌, ◌≤◌, ◌<◌}
use native.Mathlib.Omega.{arith}
use mathlib.Core.Path.{◌≡◌, refl, sym, ap, ap₂, ◌∙◌, subst}
use mathlib.Core.Bool.{Bool, true, false}
use mathlib.Core.List.{List, [], ◌∷◌, ◌++◌, map}
use lib.ListN.{length, take, drop, length-map}
use lib.Dec.{leb}
use borrow.Author.Tests.{le-leb, lt-leb}
use borrow.Rule.Slice.PartMut.{put_mid}
use Rattle.seqs.proofs.Tables.{shown-length}
use mir.Val.{bool_byte as from_bool}
use Rattle.forms.specs.Bytes.{Bytes}
use Rattle.forms.specs.Numbers.{digits}
use Rattle.forms.specs.Writers.{Laid}
use Rattle.forms.proofs.WriterLaws.{laid_as, laid_then, laid-lent, rest-long}
use Rattle.rules.specs.Answers.{Answer, Accepted, No, Held, Holder, Reply, nothing, shown, refused, if_passed}
use Rattle.rules.specs.Page.{Page}
use Rattle.rules.specs.declared.answers.Refusal.{Refusal}
use Rattle.rules.proofs.OutcomeLaws.{of-refusals}
use Rattle.rules.specs.Written.{Written, all_bytes, more_byte, page_bytes, write_if, written, WroteAs}
use Rattle.laws.proofs.StepLaws.{answered}
use Rattle.walks.specs.Walked.{Walked, same, page_on, entry_bytes, page_of, WalkedAs}
use Rattle.walks.proofs.WalkLaws.{page-long}
use Rattle.rules.specs.Outcomes.{refusal, Wrote}
use Rattle.pages.specs.Asks.{EntriesAsk, PageAsks}
use Rattle.seqs.specs.Tables.{shown as shown_in}
use Rattle.store.specs.declared.table.Slot.{Slot}

-- ---- entries as their bytes

all-on : {A : Type 0} (f : A → Bytes) (xs : List A) → all_bytes same (map f xs) ≡ all_bytes f xs
unfolding all_bytes
all-on f [] = refl
all-on f (x ∷ xs) = ap (λ (b : Bytes). f x ++ b) (all-on f xs)

-- ---- the page: count, entries, the more byte

-- "a byte, 1 if more, else 0"
more_is : (b : Bool) → from_bool b ≡ more_byte b
more_is true = refl
more_is false = refl

module _ {area : Bytes} {w : Walked} {s : Bytes} (q : PageAsks area w s) where
  -- the lines that the page holds
  abbrev slots : List Slot
  slots = take w.count w.slots

  entries : all_bytes same (page_of area w).rows ≡ all_bytes (entry_bytes area) (take w.count w.slots)
  unfolding shown_in
  entries = all-on (entry_bytes area) (take w.count w.slots)

  pub page-room : length (all_bytes (entry_bytes area) (take w.count w.slots)) + 3 ≤ length s
  page-room = omega (arith, q.room, page-long (page_of area w), ap length entries)

  module _ {a : ℕ} {t : Bytes} (v : Laid 0 2 (digits 2 w.count) s a t) where
    pub entries-asked : EntriesAsk area (take w.count w.slots) (take (length t - a) (drop a t))
    entries-asked = record { lines = q.table.holds; room = omega (arith, page-room, rest-long t a, v.next, v.length_is) }

    module _ {k : ℕ} {part : Bytes} (x : Laid 0 (length (all_bytes (entry_bytes area) (take w.count w.slots))) (all_bytes (entry_bytes area) (take w.count w.slots)) (take (length t - a) (drop a t)) k part) where
      -- the buffer after them
      abbrev after : Bytes
      after = put_mid a (length t - a) t part

      entries-laid : Laid a (length (all_bytes (entry_bytes area) slots)) (all_bytes (entry_bytes area) slots) t (a + k) after
      entries-laid = laid-lent t a (omega arith) x

      pub more_room : 0 < length (take (length after - (a + k)) (drop (a + k) after))
      more_room = omega (arith, page-room, rest-long after (a + k), entries-laid.next, entries-laid.length_is)

      pub page-laid : {n m : ℕ} {rest : Bytes} → m ≡ from_bool w.more → Laid 0 1 (m ∷ []) (take (length after - (a + k)) (drop (a + k) after)) n rest
          → Laid 0 (length (page_bytes same (page_of area w))) (page_bytes same (page_of area w)) s (a + k + n) (put_mid (a + k) (length after - (a + k)) after rest)
      unfolding page_bytes
      page-laid {n} {m} {rest} e y =
          laid_as (laid_then v (laid_then entries-laid (laid-lent after (a + k) (omega (arith, entries-laid.within, entries-laid.length_is)) y)))
          (ap₂ (λ (i : ℕ) (b : Bytes). digits 2 i ++ (b ++ (m ∷ []))) (sym (shown-length q.table (entry_bytes area))) (sym entries) ∙ ap (λ (j : ℕ). digits 2 (length (page_of area w).rows) ++ (all_bytes same (page_of area w).rows ++ (j ∷ []))) (e ∙ more_is w.more))

-- ---- the answer

module _ {area : Bytes} {want : Reply (Page Bytes)} {w : Walked} (v : WalkedAs area want w) (out : Bytes) where
  -- what the call leaves, by the walk's answer
  by : {u : Answer} → w.answer ≡ u → {r : Wrote} {out' : Bytes} → WroteAs (written same (if_passed u (shown (page_of area w))) out) r out' → WroteAs (written same want out) r out'
  by e {r} {out'} p = subst (λ (x : Reply (Page Bytes)). WroteAs (written same x out) r out') (ap (λ (u : Answer). if_passed u (shown (page_of area w))) (sym e) ∙ v.is) p

  -- "A refusal changes nothing in store or buffers"
  module _ {r : Wrote} where
    pub paged-no : {n : ℕ} → w.answer ≡ No n → r ≡ record { answer = No n; count = 0 } → WroteAs (written same want out) r out
    unfolding if_passed written
    paged-no e p = by e (record { answer_is = answered (ap (λ (x : Wrote). x.answer) p); count_is = ap (λ (x : Wrote). x.count) p; out_is = refl })

    pub paged-held : {h : Holder} → w.answer ≡ Held h → r ≡ record { answer = Held h; count = 0 } → WroteAs (written same want out) r out
    unfolding if_passed written
    paged-held e p = by e (record { answer_is = answered (ap (λ (x : Wrote). x.answer) p); count_is = ap (λ (x : Wrote). x.count) p; out_is = refl })

    pub paged-refused : (why : Refusal) → w.answer ≡ refusal why → r ≡ record { answer = refusal why; count = 0 } → WroteAs (written same want out) r out
    paged-refused why = of-refusals (λ (x : Answer). w.answer ≡ x → r ≡ record { answer = x; count = 0 } → WroteAs (written same want out) r out) (λ n e p. paged-no e p) (λ h e p. paged-held e p) why

  module _ (e : w.answer ≡ Accepted) where
    size : w.size ≡ length (page_bytes same (page_of area w))
    size = v.size_is e

    accepted : (t : Bool) → leb (length (page_bytes same (page_of area w))) (length out) ≡ t → {r : Wrote} {out' : Bytes} → WroteAs (write_if t (page_bytes same (page_of area w)) out) r out' → WroteAs (written same want out) r out'
    unfolding if_passed written
    accepted t h {r} {out'} p = by e (subst (λ (x : Bool). WroteAs (write_if x (page_bytes same (page_of area w)) out) r out') (sym h) p)

    -- "Last, 12"
    pub paged-short : {r : Wrote} → length out < w.size → r ≡ record { answer = No 12; count = 0 } → WroteAs (written same want out) r out
    unfolding write_if
    paged-short h p =
        accepted false (lt-leb (length (page_bytes same (page_of area w))) (length out) (omega (arith, size)))
        (record { answer_is = answered (ap (λ (x : Wrote). x.answer) p); count_is = ap (λ (x : Wrote). x.count) p; out_is = refl })

    module _ (h : w.size ≤ length out) where
      pub page-asked : PageAsks area w out
      page-asked = record { table = v.table; room = omega (arith, size) }

      pub paged-put : {n : ℕ} {out' : Bytes} → Laid 0 (length (page_bytes same (page_of area w))) (page_bytes same (page_of area w)) out n out' → WroteAs (written same want out) (record { answer = Accepted; count = n }) out'
      unfolding write_if
      paged-put {n} x =
          accepted true (le-leb (length (page_bytes same (page_of area w))) (length out) (omega (arith, size)))
          (record { answer_is = answered refl; count_is = all; out_is = x.is ∙ ap (λ (k : ℕ). page_bytes same (page_of area w) ++ drop k out) all })
        where
          all : n ≡ length (page_bytes same (page_of area w))
          all = omega (arith, x.next)

-- ---- the calls: what is written of entries as their bytes

page-on : {A : Type 0} (f : A → Bytes) (p : Page A) → page_bytes same (record { rows = map f p.rows; more = p.more }) ≡ page_bytes f p
unfolding page_bytes
page-on f p = ap₂ (λ (n : ℕ) (b : Bytes). digits 2 n ++ (b ++ (more_byte p.more ∷ []))) (length-map p.rows f) (all-on f p.rows)

written_on : {A : Type 0} (f : A → Bytes) (r : Reply (Page A)) (out : Bytes) → written same (page_on f r) out ≡ written f r out
unfolding written page_on
written_on f nothing out = refl
written_on f (refused v) out = refl
written_on f (shown p) out = ap (λ (b : Bytes). write_if (leb (length b) (length out)) b out) (page-on f p)

pub paged-on : {A : Type 0} (f : A → Bytes) (r : Reply (Page A)) (out : Bytes) {p : Wrote} {out' : Bytes} → WroteAs (written same (page_on f r) out) p out' → WroteAs (written f r out) p out'
paged-on f r out {p} {out'} x = subst (λ (w : Written). WroteAs w p out') (written_on f r out) x

-- ---- no second answer fits

module _ {w : Written} {r q : Wrote} {x y : Bytes} (a : WroteAs w r x) (b : WroteAs w q y) where
  pub one_answer : r.answer ≡ q.answer
  one_answer = a.answer_is.case_is ∙ sym b.answer_is.case_is

  pub one-count : r.count ≡ q.count
  one-count = a.count_is ∙ sym b.count_is

  pub one-buffer : x ≡ y
  one-buffer = a.out_is ∙ sym b.out_is
