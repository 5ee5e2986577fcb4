-- A key's lock is one of the lines, and a pair's row that of one of the defaults; the first lines of a list.
-- Assumes nothing.
use Prim.Native.Nat.{ℕ, zero, suc}
use mathlib.Core.Path.{◌≡◌, refl, ap, sym, ◌∙◌}
use mathlib.Core.Logic.{◌⊎◌, inl, inr}
use mathlib.Core.Bool.{Bool, true, false, true≢false, false≢true}
use mathlib.Core.List.{List, [], ◌∷◌}
use mathlib.Core.Option.{some}
use lib.ListN.{take}
use borrow.Author.Tests.{eqb-true}
use Rattle.forms.specs.Key.{Key}
use Rattle.forms.specs.Row.{Row}
use Rattle.forms.specs.Bytes.{eq_bytes}
use Rattle.forms.proofs.Orders.{eq_bytes-refl, eq_bytes-true, eq_bytes-sym}
use Rattle.rules.specs.Box.{Lock, Line, Standing, Finished, KeyLine, Default, lock_of, add_lock, row_of, add_row, at_pair, before, ordered}
use Rattle.laws.proofs.StepLaws.{and_left, and_right}
use Rattle.laws.proofs.Sorted.{In, Fewer, empty, gone, kept, ordered-first, ordered-rest, after-in}
use Rattle.laws.proofs.BoxOrder.{before_same}

pub fewer-take : {A : Type 0} (n : ℕ) (xs : List A) → Fewer (take n xs) xs
fewer-take zero xs = fewer-none xs
  where
    fewer-none : {A : Type 0} (xs : List A) → Fewer [] xs
    fewer-none [] = empty
    fewer-none (x ∷ xs) = gone (fewer-none xs)
fewer-take (suc n) [] = empty
fewer-take (suc n) (x ∷ xs) = kept (fewer-take n xs)

pub lock-found : (k : Key) (es : List KeyLine) (l : Lock) → lock_of k es ≡ some l → In (record { key = k; line = Standing l }) es
unfolding lock_of add_lock
lock-found k [] l h = absurd (true≢false (cc))
lock-found k (e ∷ es) l h = go e.key e.line (eq_bytes k e.key) refl h (lock-found k es l)
  where
    go : (j : Key) (x : Line) (t : Bool) → eq_bytes k j ≡ t → add_lock t x (lock_of k es) ≡ some l → (lock_of k es ≡ some l → In (record { key = k; line = Standing l }) es)
        → ◌≡◌ {A = KeyLine} (record { key = k; line = Standing l }) (record { key = j; line = x }) ⊎ In (record { key = k; line = Standing l }) es
    go j (Standing m) true e q ih =
        let p : l ≡ m = cc in
        inl (λ i. record { key = eq_bytes-true k j e i; line = Standing (p i) })
    go j (Finished w) true e q ih = inr (ih q)
    go j x false e q ih = inr (ih q)

pub lock-shown : (k : Key) (es : List KeyLine) (l : Lock) → ordered before es ≡ true → In (record { key = k; line = Standing l }) es → lock_of k es ≡ some l
unfolding lock_of add_lock
lock-shown k (e ∷ es) l o (inl q) = ap (λ (x : KeyLine). add_lock (eq_bytes k x.key) x.line (lock_of k es)) (sym q) ∙ ap (λ (t : Bool). add_lock t (Standing l) (lock_of k es)) (eq_bytes-refl k)
lock-shown k (e ∷ es) l o (inr m) = go e.key e.line (eq_bytes k e.key) refl (after-in before e es (record { key = k; line = Standing l }) (ordered-first before e es o) m) (lock-shown k es l (ordered-rest before e es o) m)
  where
    go : (j : Key) (x : Line) (t : Bool) → eq_bytes k j ≡ t → before (record { key = j; line = x }) (record { key = k; line = Standing l }) ≡ true → lock_of k es ≡ some l → add_lock t x (lock_of k es) ≡ some l
    go j (Standing n) true q h ih = absurd (false≢true (sym (before_same (record { key = j; line = Standing n }) (record { key = k; line = Standing l }) (eq_bytes-sym j k ∙ q)) ∙ h))
    go j (Finished w) true q h ih = ih
    go j x false q h ih = ih
lock-shown k [] l o x'' = elim x'' [ ]

pub row-found : (k : Key) (s : ℕ) (ds : List Default) (r : Row) → row_of k s ds ≡ some r → In (record { key = k; start = s; row = r }) ds
unfolding row_of add_row
row-found k s [] r h = absurd (true≢false (cc))
row-found k s (d ∷ ds) r h = go (at_pair k s d) refl h (row-found k s ds r)
  where
    go : (t : Bool) → at_pair k s d ≡ t → add_row t d.row (row_of k s ds) ≡ some r → (row_of k s ds ≡ some r → In (record { key = k; start = s; row = r }) ds)
        → ◌≡◌ {A = Default} (record { key = k; start = s; row = r }) d ⊎ In (record { key = k; start = s; row = r }) ds
    go true e q ih =
        let p : r ≡ d.row = cc in
        let a : k ≡ d.key = eq_bytes-true k d.key (and_left _ _ e) in
        let b : s ≡ d.start = eqb-true s d.start (and_right (eq_bytes k d.key) _ e) in
        inl (λ i. record { key = a i; start = b i; row = p i })
    go false e q ih = inr (ih q)
