-- Demand 2's sentence about shown rows, proved of the definition of a read.
-- Assumes nothing.
use Prim.Native.Nat.{ℕ, ◌≤◌, ◌<◌}
use native.Mathlib.Omega.{arith}
use mathlib.Core.Path.{◌≡◌, refl, sym, ap, ap₂, subst, ◌∙◌}
use mathlib.Core.Bool.{Bool, true, false, ◌&&◌, true≢false, false≢true}
use mathlib.Core.List.Memᴰ
use mathlib.Core.List.{List, [], ◌∷◌, reverse_aux, Memᴰ}
use mathlib.Core.Logic.{◌⊎◌, inl, inr}
use mathlib.Core.Option.{Option, none, some}
use lib.Dec.{leb}
use borrow.Author.Tests.{ltb-true, leb-true, lt-ltb, le-leb}
use Rattle.seqs.proofs.Tests.{and_left, and_right}
use Rattle.forms.specs.Bytes.{cmp, eq_bytes}
use Rattle.forms.specs.Key.{Key}
use Rattle.forms.specs.Row.{Row, row_form}
use Rattle.std.specs.declared.cmp.Ordering.{Ordering}
use Rattle.std.specs.declared.cmp.Ordering.TheVariants.{Equal}
use Rattle.forms.proofs.Orders.{eq_bytes-true, cmp-refl}
use Rattle.rules.specs.Answers.{Answer, Accepted, ◌▸◌, need, need_own, shown, if_passed}
use Rattle.rules.specs.declared.records.Kind.{Kind}
use Rattle.rules.specs.declared.records.Kind.TheVariants.{Put, Delete, Rollback}
use Rattle.rules.specs.declared.records.Record.{Record}
use Rattle.rules.specs.Box.{Box, Lock, Line, Standing, Finished, KeyLine, Default, eq_kind, holder_of, records_of, add_record, lock_of, row_of, by_order, line_before, before, all_after, ordered, in_order}
use Rattle.rules.specs.Sound.{sound_record, all_sound}
use Rattle.rules.specs.Read.{lock_lets, keep_if, at_or_below, newest_first, show_if, show_row, one_record, walk, read_steps, examine, read}
use Rattle.rules.specs.Shown.{Asked, Counts, Newest, PutRow, Shows, NewestPut, ShownRows}

-- ---- each of a list, and a list whose stamps fall

Each : (Record → Type 0) → List Record → Type 0
Each P ws = (v : Record) → Memᴰ v ws → P v

cons-each : (P : Record → Type 0) (w : Record) (ws : List Record) → P w → Each P ws → Each P (w ∷ ws)
unfolding Each
cons-each P w ws h e v i = go (Memᴰ.cases_cons i)
  where
    go : (v ≡ w) ⊎ Memᴰ v ws → P v
    go (inl q) = subst P (sym q) h
    go (inr j) = e v j

Falling : List Record → Type 0
Falling [] = Unit {0}
Falling (w ∷ ws) = Each (λ v. v.stamp < w.stamp) ws × Falling ws

Rising : List Record → Type 0
Rising [] = Unit {0}
Rising (w ∷ ws) = Each (λ v. w.stamp < v.stamp) ws × Rising ws

-- ---- from lines in order to rising stamps

line-stamps : (k : Key) (w v : Record) (e f : KeyLine) → e.line ≡ Finished w → f.line ≡ Finished v → eq_bytes k e.key ≡ true → eq_bytes k f.key ≡ true → before e f ≡ true → w.stamp < v.stamp
unfolding before
line-stamps k w v e f p q a b h =
    let s : e.key ≡ f.key = sym (eq_bytes-true k e.key a) ∙ eq_bytes-true k f.key b in
    let c : cmp e.key f.key ≡ Equal = ap (λ (x : Key). cmp x f.key) s ∙ cmp-refl f.key in
    ltb-true w.stamp v.stamp (sym (ap (λ (o : Ordering). by_order o (line_before e.line f.line)) c ∙ ap (λ (x : Line). line_before x f.line) p ∙ ap (line_before (Finished w)) q) ∙ h)

after-stamps : (k : Key) (w : Record) (e : KeyLine) (es : List KeyLine) → e.line ≡ Finished w → eq_bytes k e.key ≡ true → all_after before e es ≡ true → Each (λ v. w.stamp < v.stamp) (records_of k es)
unfolding all_after records_of add_record Each
after-stamps k w e [] p a h = λ v i. absurd (Memᴰ.not-nil i)
after-stamps k w e (f ∷ es) p a h = go (eq_bytes k f.key) f.line refl refl (after-stamps k w e es p a (and_right (before e f) _ h))
  where
    go : (t : Bool) (x : Line) → eq_bytes k f.key ≡ t → f.line ≡ x → Each (λ v. w.stamp < v.stamp) (records_of k es) → Each (λ v. w.stamp < v.stamp) (add_record t x (records_of k es))
    go true (Finished u) b q rest = cons-each (λ v. w.stamp < v.stamp) u (records_of k es) (line-stamps k w u e f p q a b (and_left _ _ h)) rest
    go true (Standing l) b q rest = rest
    go false x b q rest = rest

rising : (k : Key) (es : List KeyLine) → ordered before es ≡ true → Rising (records_of k es)
unfolding ordered records_of add_record Rising
rising k [] h = tt
rising k (e ∷ es) h = go (eq_bytes k e.key) e.line refl refl (rising k es (and_right (all_after before e es) _ h))
  where
    go : (t : Bool) (x : Line) → eq_bytes k e.key ≡ t → e.line ≡ x → Rising (records_of k es) → Rising (add_record t x (records_of k es))
    go true (Finished w) b q rest = (after-stamps k w e es q b (and_left _ _ h), rest)
    go true (Standing l) b q rest = rest
    go false x b q rest = rest

-- ---- at or below the moment

below_in : (m : ℕ) (ws : List Record) (v : Record) → Memᴰ v (at_or_below m ws) → Memᴰ v ws × (v.stamp ≤ m)
unfolding at_or_below keep_if
below_in m [] v i = absurd (Memᴰ.not-nil i)
below_in m (w ∷ ws) v i = go (leb w.stamp m) refl (below_in m ws v) i
  where
    go : (t : Bool) → leb w.stamp m ≡ t → (Memᴰ v (at_or_below m ws) → Memᴰ v ws × (v.stamp ≤ m)) → Memᴰ v (keep_if t w (at_or_below m ws)) → Memᴰ v (w ∷ ws) × (v.stamp ≤ m)
    go true h rest i = pick (Memᴰ.cases_cons i)
      where
        pick : (v ≡ w) ⊎ Memᴰ v (at_or_below m ws) → Memᴰ v (w ∷ ws) × (v.stamp ≤ m)
        pick (inl q) = (Memᴰ.head q, subst (λ (x : Record). x.stamp ≤ m) (sym q) (leb-true _ _ h))
        pick (inr j) = (Memᴰ.tail (rest j).0, (rest j).1)
    go false h rest i = (Memᴰ.tail (rest i).0, (rest i).1)

in-below : (m : ℕ) (ws : List Record) (v : Record) → Memᴰ v ws → v.stamp ≤ m → Memᴰ v (at_or_below m ws)
unfolding at_or_below keep_if
in-below m [] v i h = absurd (Memᴰ.not-nil i)
in-below m (w ∷ ws) v i h = go (leb w.stamp m) refl (λ j. in-below m ws v j h) (Memᴰ.cases_cons i)
  where
    go : (t : Bool) → leb w.stamp m ≡ t → (Memᴰ v ws → Memᴰ v (at_or_below m ws)) → (v ≡ w) ⊎ Memᴰ v ws → Memᴰ v (keep_if t w (at_or_below m ws))
    go true e rest (inl q) = Memᴰ.head q
    go true e rest (inr j) = Memᴰ.tail (rest j)
    go false e rest (inl q) = absurd (true≢false (sym (le-leb w.stamp m (subst (λ (x : Record). x.stamp ≤ m) q h)) ∙ e))
    go false e rest (inr j) = rest j

rising-below : (m : ℕ) (ws : List Record) → Rising ws → Rising (at_or_below m ws)
unfolding at_or_below keep_if Rising Each
rising-below m [] r = tt
rising-below m (w ∷ ws) r = go (leb w.stamp m) (rising-below m ws r.1)
  where
    go : (t : Bool) → Rising (at_or_below m ws) → Rising (keep_if t w (at_or_below m ws))
    go true rest = (λ v i. r.0 v (below_in m ws v i).0, rest)
    go false rest = rest

-- ---- the other way round

aux-in : (ws acc : List Record) (v : Record) → Memᴰ v (reverse_aux ws acc) → Memᴰ v ws ⊎ Memᴰ v acc
aux-in [] acc v i = inr i
aux-in (w ∷ ws) acc v i = go (aux-in ws (w ∷ acc) v i)
  where
    go : Memᴰ v ws ⊎ Memᴰ v (w ∷ acc) → Memᴰ v (w ∷ ws) ⊎ Memᴰ v acc
    go (inl j) = inl (Memᴰ.tail j)
    go (inr j) = pick (Memᴰ.cases_cons j)
      where
        pick : (v ≡ w) ⊎ Memᴰ v acc → Memᴰ v (w ∷ ws) ⊎ Memᴰ v acc
        pick (inl q) = inl (Memᴰ.head q)
        pick (inr l) = inr l

in-aux : (ws acc : List Record) (v : Record) → Memᴰ v ws ⊎ Memᴰ v acc → Memᴰ v (reverse_aux ws acc)
in-aux [] acc v (inl i) = absurd (Memᴰ.not-nil i)
in-aux [] acc v (inr i) = i
in-aux (w ∷ ws) acc v (inl i) = go (in-aux ws (w ∷ acc) v) (Memᴰ.cases_cons i)
  where
    go : (Memᴰ v ws ⊎ Memᴰ v (w ∷ acc) → Memᴰ v (reverse_aux ws (w ∷ acc))) → (v ≡ w) ⊎ Memᴰ v ws → Memᴰ v (reverse_aux ws (w ∷ acc))
    go rest (inl q) = rest (inr (Memᴰ.head q))
    go rest (inr j) = rest (inl j)
in-aux (w ∷ ws) acc v (inr i) = in-aux ws (w ∷ acc) v (inr (Memᴰ.tail i))

aux-falling : (ws acc : List Record) → Rising ws → Falling acc → ((a : Record) → Memᴰ a acc → Each (λ v. a.stamp < v.stamp) ws) → Falling (reverse_aux ws acc)
unfolding Rising Falling Each
aux-falling [] acc r f h = f
aux-falling (w ∷ ws) acc r f h = aux-falling ws (w ∷ acc) r.1 (λ a i. h a i w (Memᴰ.head refl), f) (cons-each' r.0)
  where
    cons-each' : ((v : Record) → Memᴰ v ws → w.stamp < v.stamp) → (a : Record) → Memᴰ a (w ∷ acc) → (v : Record) → Memᴰ v ws → a.stamp < v.stamp
    cons-each' g a i v j = pick (Memᴰ.cases_cons i)
      where
        pick : (a ≡ w) ⊎ Memᴰ a acc → a.stamp < v.stamp
        pick (inl q) = subst (λ (x : Record). x.stamp < v.stamp) (sym q) (g v j)
        pick (inr l) = h a l v (Memᴰ.tail j)

-- ---- the walk over sound records whose stamps fall

-- the newest of a list that counts
record Top (ws : List Record) (w : Record) : Type 0 where
  among : Memᴰ w ws
  counts : Counts w
  newest : (v : Record) → Memᴰ v ws → Counts v → v.stamp ≤ w.stamp

put-counts : (w : Record) → w.kind ≡ Put → Counts w
put-counts w e = ap (λ (k : Kind). eq_kind k Rollback) e

not-rollback : {X : Type 0} (w : Record) → w.kind ≡ Rollback → Counts w → X
not-rollback w e c = absurd (true≢false (sym (ap (λ (k : Kind). eq_kind k Rollback) e) ∙ c))

show-out : (o : Option Row) (r : Row) → show_row o ≡ shown r → (o ≡ some r) × (row_form r ≡ true)
unfolding show_row show_if
show-out none r e = absurd (true≢false (cc))
show-out (some q) r e = go (row_form q) refl e
  where
    go : (t : Bool) → row_form q ≡ t → show_if t q ≡ shown r → (some q ≡ some r) × (row_form r ≡ true)
    go true h e = let s : q ≡ r = cc in (ap some s, ap row_form (sym s) ∙ h)
    go false h e = absurd (true≢false (cc))

walk-out : (k : Key) (ds : List Default) (ws : List Record) (r : Row) → all_sound ws ≡ true → Falling ws → (walk k ds ws).reply ≡ shown r → (w : Record) × Top ws w × PutRow k ds w r
unfolding all_sound Falling Each walk one_record
walk-out k ds [] r s f e = absurd (true≢false (cc))
walk-out k ds (w ∷ ws) r s f e = go w.kind refl (sound_record w) (and_left _ _ s) (walk-out k ds ws r (and_right (sound_record w) _ s) f.1) e
  where
    go : (n : Kind) → w.kind ≡ n → (t : Bool) → t ≡ true → ((walk k ds ws).reply ≡ shown r → (v : Record) × Top ws v × PutRow k ds v r) → (one_record t n (show_row (row_of k w.start ds)) (walk k ds ws)).reply ≡ shown r → (v : Record) × Top (w ∷ ws) v × PutRow k ds v r
    go n q false h rest e = absurd (false≢true h)
    go Put q true h rest e =
        let p = show-out (row_of k w.start ds) r e in
        (w, record { among = Memᴰ.head refl; counts = put-counts w q; newest = λ v i c. top v (Memᴰ.cases_cons i) }, record { put = q; stored = p.0; decodes = p.1 })
      where
        top : (v : Record) → (v ≡ w) ⊎ Memᴰ v ws → v.stamp ≤ w.stamp
        top v (inl s) = subst (λ (x : Record). x.stamp ≤ w.stamp) (sym s) (omega arith)
        top v (inr j) = let l = f.0 v j in omega arith
    go Delete q true h rest e = absurd (true≢false (cc))
    go Rollback q true h rest e =
        let x = rest e in
        (x.0, record { among = Memᴰ.tail x.1.among; counts = x.1.counts; newest = λ v i c. top x.0 x.1 v c (Memᴰ.cases_cons i) }, x.2)
      where
        top : (u : Record) → Top ws u → (v : Record) → Counts v → (v ≡ w) ⊎ Memᴰ v ws → v.stamp ≤ u.stamp
        top u t v c (inl s) = not-rollback v (ap (λ (z : Record). z.kind) s ∙ q) c
        top u t v c (inr j) = t.newest v j c

show-in : (o : Option Row) (r : Row) → o ≡ some r → row_form r ≡ true → show_row o ≡ shown r
unfolding show_row show_if
show-in o r e h = ap show_row e ∙ ap (λ (t : Bool). show_if t r) h

walk-in : (k : Key) (ds : List Default) (ws : List Record) (w : Record) (r : Row) → all_sound ws ≡ true → Falling ws → Top ws w → PutRow k ds w r → (walk k ds ws).reply ≡ shown r
unfolding all_sound Falling Each walk one_record
walk-in k ds [] w r s f t p = absurd (Memᴰ.not-nil t.among)
walk-in k ds (x ∷ ws) w r s f t p =
    ap (λ (b : Bool). (one_record b x.kind (show_row (row_of k x.start ds)) (walk k ds ws)).reply) (and_left (sound_record x) _ s)
    ∙ go x.kind refl (Memᴰ.cases_cons t.among) (λ j. walk-in k ds ws w r (and_right (sound_record x) _ s) f.1 (lower j) p)
  where
    lower : Memᴰ w ws → Top ws w
    lower j = record { among = j; counts = t.counts; newest = λ v i. t.newest v (Memᴰ.tail i) }

    first : Counts x → (w ≡ x) ⊎ Memᴰ w ws → w ≡ x
    first c (inl q) = q
    first c (inr j) = let a = f.0 w j in let b = t.newest x (Memᴰ.head refl) c in absurd (omega arith)

    at : w ≡ x → show_row (row_of k x.start ds) ≡ shown r
    at q = show-in (row_of k x.start ds) r (ap (λ (z : Record). row_of k z.start ds) (sym q) ∙ p.stored) p.decodes

    go : (n : Kind) → x.kind ≡ n → (w ≡ x) ⊎ Memᴰ w ws → (Memᴰ w ws → (walk k ds ws).reply ≡ shown r) → (one_record true n (show_row (row_of k x.start ds)) (walk k ds ws)).reply ≡ shown r
    go Put q i rest = at (first (put-counts x q) i)
    go Delete q i rest =
        let e : w ≡ x = first (ap (λ (n : Kind). eq_kind n Rollback) q) i in
        let z : Put ≡ Delete = sym p.put ∙ ap (λ (z : Record). z.kind) e ∙ q in
        absurd (true≢false (ap (λ (n : Kind). eq_kind n Put) z))
    go Rollback q (inl s) rest = not-rollback w (ap (λ (z : Record). z.kind) s ∙ q) t.counts
    go Rollback q (inr j) rest = rest j

-- ---- sound from the whole list to the part by the moment, the other way round

sound-all : (ws : List Record) → all_sound ws ≡ true → Each (λ v. sound_record v ≡ true) ws
unfolding all_sound Each
sound-all [] h v i = absurd (Memᴰ.not-nil i)
sound-all (w ∷ ws) h v i = go (sound-all ws (and_right (sound_record w) _ h) v) (Memᴰ.cases_cons i)
  where
    go : (Memᴰ v ws → sound_record v ≡ true) → (v ≡ w) ⊎ Memᴰ v ws → sound_record v ≡ true
    go rest (inl q) = ap sound_record q ∙ and_left (sound_record w) _ h
    go rest (inr j) = rest j

all_sound_lem : (ws : List Record) → Each (λ v. sound_record v ≡ true) ws → all_sound ws ≡ true
unfolding all_sound Each
all_sound_lem [] h = refl
all_sound_lem (w ∷ ws) h = ap (λ (t : Bool). t && all_sound ws) (h w (Memᴰ.head refl)) ∙ all_sound_lem ws (λ v i. h v (Memᴰ.tail i))

module _ (floor : ℕ) (k : Key) (m : ℕ) (b : Box) (a : Asked floor k m b) where
  ws : List Record
  ws = records_of k b.lines

  rising-ws : Rising ws
  unfolding ws in_order
  rising-ws = rising k b.lines (and_left _ _ a.sorted)

  in-first : (v : Record) → Memᴰ v ws → v.stamp ≤ m → Memᴰ v (newest_first m ws)
  unfolding newest_first
  in-first v i h = in-aux (at_or_below m ws) [] v (inl (in-below m ws v i h))

  first-in : (v : Record) → Memᴰ v (newest_first m ws) → Memᴰ v ws × (v.stamp ≤ m)
  unfolding newest_first
  first-in v i = go (aux-in (at_or_below m ws) [] v i)
    where
      go : Memᴰ v (at_or_below m ws) ⊎ Memᴰ v [] → Memᴰ v ws × (v.stamp ≤ m)
      go (inl j) = below_in m ws v j
      go (inr j) = absurd (Memᴰ.not-nil j)

  falling-first : Falling (newest_first m ws)
  unfolding newest_first Falling Each
  falling-first = aux-falling (at_or_below m ws) [] (rising-below m ws rising-ws) tt (λ x i. absurd (Memᴰ.not-nil i))

  sound-first : all_sound (newest_first m ws) ≡ true
  unfolding ws Each
  sound-first = all_sound_lem (newest_first m ws) (λ v i. sound-all ws a.sound v (first-in v i).0)

  -- with its steps passed a read is the walk
  lets : (o : Option Lock) → lock_of k b.lines ≡ o → lock_lets m o ≡ Accepted
  unfolding lock_lets need_own
  lets none e = refl
  lets (some l) e = ap (λ (t : Bool). need_own t (holder_of l)) (lt-ltb m l.start (a.free l e))

  steps-pass : read_steps floor k m b ≡ Accepted
  unfolding read_steps need ◌▸◌
  steps-pass = ap₂ (λ (t u : Bool). need t 1 ▸ need u 14 ▸ lock_lets m (lock_of k b.lines)) a.valid (le-leb floor m a.above) ∙ lets (lock_of k b.lines) refl

  read_is : read floor k m b ≡ (walk k b.defaults (newest_first m ws)).reply
  unfolding read examine ws if_passed
  read_is = ap (λ (v : Answer). if_passed v (walk k b.defaults (newest_first m (records_of k b.lines))).reply) steps-pass

  top-newest : (w : Record) → Top (newest_first m ws) w → Newest m ws w
  top-newest w t = record {
    among = (first-in w t.among).0;
    by = (first-in w t.among).1;
    counts = t.counts;
    newest = λ v i h. t.newest v (in-first v i h);
  }

  newest-top : (w : Record) → Newest m ws w → Top (newest_first m ws) w
  newest-top w n = record {
    among = in-first w n.among n.by;
    counts = n.counts;
    newest = λ v i. n.newest v (first-in v i).0 (first-in v i).1;
  }

  out : (r : Row) → Shows floor k m b r → NewestPut k m b r
  unfolding ws
  out r e =
      let x = walk-out k b.defaults (newest_first m ws) r sound-first falling-first (sym read_is ∙ e) in
      (x.0, top-newest x.0 x.1, x.2)

  into : (r : Row) → NewestPut k m b r → Shows floor k m b r
  unfolding ws
  into r x = read_is ∙ walk-in k b.defaults (newest_first m ws) x.0 r sound-first falling-first (newest-top x.0 x.1) x.2

-- "a valid key shows a row exactly when the newest record by that moment, rollbacks passed over, is a Put whose stored row decodes, and shows
-- that row"
pub shown-rows : ShownRows
shown-rows floor k m b r a = (out floor k m b a r, into floor k m b a r)
