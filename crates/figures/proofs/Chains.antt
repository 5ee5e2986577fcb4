-- Chains of a list of keys, where some equal ones come first and stand nowhere else: they are one chain more. No count is above the keys'.
-- Assumes nothing.
use Prim.Native.Nat.{ℕ, zero, suc, ◌+◌, ◌≤◌, ◌<◌}
use native.Mathlib.Omega.{arith}
use mathlib.Core.Path.{◌≡◌, refl, sym, ap, ap₂, ◌∙◌}
use mathlib.Core.Bool.{Bool, true, false, ◌&&◌, not}
use mathlib.Core.List.{List, [], ◌∷◌, ◌++◌}
use lib.Dec.{leb}
use lib.ListN.{length, replicate}
use borrow.Author.Tests.{le-leb, lt-leb}
use Rattle.forms.specs.Bytes.{eq_bytes}
use Rattle.forms.specs.Key.{Key}
use Rattle.forms.proofs.Orders.{eq_bytes-refl, eq_bytes-sym}
use Rattle.rules.specs.Read.{keep_if}
use Rattle.rules.specs.declared.figures.Figures.{Figures}
use Rattle.rules.specs.Figures.{suc_if, chain_of, different, chains_of, chains, from_to, over, longest, figures}
use Rattle.figures.specs.Walks.{one_chain, ended, Few}

-- n times the key k, and then the others
abbrev pub times : ℕ → Key → List Key → List Key
times n k ks = replicate n k ++ ks

pub times_more : (m n : ℕ) (k : Key) (ks : List Key) → times (m + n) k ks ≡ times m k (times n k ks)
times_more zero n k ks = let e : 0 + n ≡ n = omega arith in ap (λ (i : ℕ). times i k ks) e
times_more (suc m) n k ks = let e : suc m + n ≡ suc (m + n) = omega arith in ap (λ (i : ℕ). times i k ks) e ∙ ap (λ (l : List Key). k ∷ l) (times_more m n k ks)

pub times_long : (n : ℕ) (k : Key) (ks : List Key) → length (times n k ks) ≡ n + length ks
times_long zero k ks = omega arith
times_long (suc n) k ks = omega (arith, times_long n k ks)

-- ---- how often a key stands there

chain-own : (n : ℕ) (k : Key) (ks : List Key) → chain_of k (times n k ks) ≡ n + chain_of k ks
unfolding chain_of suc_if
chain-own zero k ks = omega arith
chain-own (suc n) k ks = rw (eq_bytes-refl k) (omega (arith, chain-own n k ks))

pub chain-past : (n : ℕ) (k j : Key) (ks : List Key) → eq_bytes k j ≡ false → chain_of k (times n j ks) ≡ chain_of k ks
unfolding chain_of suc_if
chain-past zero k j ks h = refl
chain-past (suc n) k j ks h = rw h (chain-past n k j ks h)

none-head : (k j : Key) (js : List Key) → chain_of k (j ∷ js) ≡ 0 → eq_bytes k j ≡ false
unfolding chain_of suc_if
none-head k j js h = go (eq_bytes k j) h
  where
    go : (b : Bool) → suc_if b (chain_of k js) ≡ 0 → b ≡ false
    go true h = absurd (omega arith)
    go false h = refl

none_rest : (k j : Key) (js : List Key) → chain_of k (j ∷ js) ≡ 0 → chain_of k js ≡ 0
none_rest k j js h = sym (chain-past 1 k j js (none-head k j js h)) ∙ h

-- ---- the different keys, and their chains

none-different : (k : Key) (ks : List Key) → chain_of k ks ≡ 0 → chain_of k (different ks) ≡ 0
unfolding different keep_if
none-different k [] h = h
none-different k (j ∷ js) h = go (leb (chain_of j js) 0) (none-different k js (none_rest k j js h))
  where
    go : (b : Bool) → chain_of k (different js) ≡ 0 → chain_of k (keep_if b j (different js)) ≡ 0
    go true n = chain-past 1 k j (different js) (none-head k j js h) ∙ n
    go false n = n

-- the last of a chain is kept
different-run : (n : ℕ) (k : Key) (ks : List Key) → chain_of k ks ≡ 0 → different (times (suc n) k ks) ≡ k ∷ different ks
unfolding different keep_if
different-run zero k ks h = let l : chain_of k ks ≤ 0 = omega arith in simp (le-leb _ _ l)
different-run (suc n) k ks h = let l : 0 < chain_of k (times (suc n) k ks) = omega (arith, chain-own (suc n) k ks) in simp (lt-leb _ _ l, different-run n k ks h)

chains-past : (n : ℕ) (k : Key) (ks js : List Key) → chain_of k js ≡ 0 → chains_of (times n k ks) js ≡ chains_of ks js
unfolding chains_of
chains-past n k ks [] h = refl
chains-past n k ks (j ∷ js) h =
    ap₂ (λ (m : ℕ) (ns : List ℕ). m ∷ ns) (chain-past n j k ks (eq_bytes-sym j k ∙ none-head k j js h)) (chains-past n k ks js (none_rest k j js h))

-- ---- the figures

-- a run and its keys are one chain more
pub figures-run : (n : ℕ) (k : Key) (ks : List Key) → chain_of k ks ≡ 0 → figures (times n k ks) ≡ ended n (figures ks)
unfolding figures chains chains_of ended one_chain from_to over longest
figures-run zero k ks h = refl
figures-run (suc n) k ks h =
    let d : different (times (suc n) k ks) ≡ k ∷ different ks = different-run n k ks h in
    let o : chain_of k (times (suc n) k ks) ≡ suc n = omega (arith, chain-own (suc n) k ks) in
    let c : chains (times (suc n) k ks) ≡ suc n ∷ chains ks
    = ap (chains_of (times (suc n) k ks)) d ∙ ap₂ (λ (m : ℕ) (ns : List ℕ). m ∷ ns) o (chains-past (suc n) k ks (different ks) (none-different k ks h)) in
    ap₂ (λ (m : ℕ) (ns : List ℕ). shape m (length (times (suc n) k ks)) ns) (ap length d) c ∙ ap (λ (m : ℕ). shape (suc (length (different ks))) m (suc n ∷ chains ks)) (times_long (suc n) k ks)
  where
    shape : ℕ → ℕ → List ℕ → Figures
    shape m a ns = record { keys = m; all = a; one = from_to 1 1 ns; four = from_to 2 4 ns; sixteen = from_to 5 16 ns; above = over 16 ns; longest = longest ns }

-- ---- every count is small

suc-if : (b : Bool) (n : ℕ) → suc_if b n ≤ suc n
unfolding suc_if
suc-if true n = omega arith
suc-if false n = omega arith

few-different : (ks : List Key) → length (different ks) ≤ length ks
unfolding different keep_if
few-different [] = omega arith
few-different (k ∷ ks) = go (leb (chain_of k ks) 0) (few-different ks)
  where
    go : (b : Bool) → length (different ks) ≤ length ks → length (keep_if b k (different ks)) ≤ suc (length ks)
    go true h = omega arith
    go false h = omega arith

few-chains : (ks js : List Key) → length (chains_of ks js) ≡ length js
unfolding chains_of
few-chains ks [] = refl
few-chains ks (j ∷ js) = ap suc (few-chains ks js)

few-class : (a e : ℕ) (ns : List ℕ) → from_to a e ns ≤ length ns
unfolding from_to
few-class a e [] = omega arith
few-class a e (n ∷ ns) = omega (arith, suc-if (leb a n && leb n e) (from_to a e ns), few-class a e ns)

few-over : (a : ℕ) (ns : List ℕ) → over a ns ≤ length ns
unfolding over
few-over a [] = omega arith
few-over a (n ∷ ns) = omega (arith, suc-if (not (leb n a)) (over a ns), few-over a ns)

pub figures-few : (n : ℕ) (k : Key) (ks : List Key) → length (times n k ks) ≤ 1024 → Few n (figures ks)
unfolding figures chains
figures-few n k ks h =
    let d = few-different ks in
    let c = few-chains ks (different ks) in
    record {
      all = omega (arith, times_long n k ks);
      keys = d;
      one = omega (arith, few-class 1 1 (chains ks));
      four = omega (arith, few-class 2 4 (chains ks));
      sixteen = omega (arith, few-class 5 16 (chains ks));
      above = omega (arith, few-over 16 (chains ks));
    }
