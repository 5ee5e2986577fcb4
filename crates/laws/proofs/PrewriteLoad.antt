-- What a prewrite adds to the load: one entry, the whole batch, and the room that it needs. Assumes nothing.
use Prim.Native.Nat.{ℕ}
use native.Mathlib.Omega.{arith}
use mathlib.Core.Path.{◌≡◌, sym}
use mathlib.Core.Bool.{true}
use mathlib.Core.List.{List, [], ◌∷◌}
use mathlib.Core.Option.{Option, none, some}
use Rattle.forms.specs.Key.{Key}
use Rattle.forms.specs.Row.{Row}
use Rattle.forms.specs.Batch.{Mutation, key_inside, ascend}
use Rattle.rules.specs.Box.{Box, Lock, Standing, Default, lock_of, insert_line}
use Rattle.rules.specs.Room.{load_of}
use Rattle.rules.specs.Calls.{kind_of}
use Rattle.rules.specs.Prewrite.{PrewriteTerms, lock_for, store_if, lock_line, unless_locked, apply_prewrite, apply_prewrites}
use Rattle.laws.specs.Adds.{no_load, plus, sum_loads, lock_load, of_row, defaults_load, prewrite_adds}
use Rattle.laws.proofs.FrameLaws.{Same, ascend-apart, ascend-rest}
use Rattle.laws.proofs.LoadLaws.{load-eq, load_fields, plus_none, none-plus, load-parts, lines-insert, defaults-insert, sums_same}
use Rattle.laws.proofs.PrewriteLaws.{prewrite-only}

pub store-load : (k : Key) (s : ℕ) (row : Option Row) (ds : List Default) → defaults_load (store_if k s row ds) ≡ plus (of_row k row) (defaults_load ds)
unfolding store_if of_row
store-load k s none ds = sym (none-plus (defaults_load ds))
store-load k s (some r) ds = defaults-insert (record { key = k; start = s; row = r }) ds

lock-load : (h : PrewriteTerms) (m : Mutation) (b : Box) → load_of (lock_line h m b) ≡ plus (load_of b) (plus (lock_load m.key h.primary) (of_row m.key m.row))
unfolding lock_line
lock-load h m b =
    let e = load_fields (load-parts (insert_line (record { key = m.key; line = Standing (lock_for h (kind_of m.row)) }) b.lines) (store_if m.key h.start m.row b.defaults)) in
    let f = load_fields (lines-insert (record { key = m.key; line = Standing (lock_for h (kind_of m.row)) }) b.lines) in
    let g = load_fields (store-load m.key h.start m.row b.defaults) in
    let p = load_fields (load-parts b.lines b.defaults) in
    load-eq _ (plus (load_of b) (plus (lock_load m.key h.primary) (of_row m.key m.row))) (omega arith)

-- one entry
pub prewrite-load : (h : PrewriteTerms) (m : Mutation) (b : Box) → load_of (apply_prewrite h m b) ≡ plus (load_of b) (prewrite_adds h b m)
unfolding apply_prewrite unless_locked prewrite_adds
prewrite-load h m b = go (lock_of m.key b.lines)
  where
    go : (o : Option Lock) → load_of (unless_locked o (lock_line h m b) b) ≡ plus (load_of b) (unless_locked o (plus (lock_load m.key h.primary) (of_row m.key m.row)) no_load)
    go none = lock-load h m b
    go (some l) = sym (plus_none (load_of b))

pub prewrite_adds-same : (h : PrewriteTerms) (b c : Box) (m : Mutation) → Same b c m.key h.start → prewrite_adds h c m ≡ prewrite_adds h b m
unfolding prewrite_adds
prewrite_adds-same h b c m v = rw v.lock

-- the box that the whole batch leaves, from the box before the call
pub prewrites-load : (h : PrewriteTerms) (ms : List Mutation) (b : Box) → ascend key_inside ms ≡ true → load_of (apply_prewrites h ms b) ≡ plus (load_of b) (sum_loads (prewrite_adds h b) ms)
unfolding apply_prewrites sum_loads
prewrites-load h [] b a = sym (plus_none (load_of b))
prewrites-load h (m ∷ ms) b a =
    let ih = load_fields (prewrites-load h ms (apply_prewrite h m b) (ascend-rest key_inside m ms a)) in
    let e = load_fields (prewrite-load h m b) in
    let f = load_fields (sums_same key_inside h.start (prewrite_adds h) (prewrite_adds-same h) m.key ms b (apply_prewrite h m b) (ascend-apart key_inside m ms a) (prewrite-only h h.start m b)) in
    load-eq (load_of (apply_prewrites h ms (apply_prewrite h m b))) (plus (load_of b) (plus (prewrite_adds h b m) (sum_loads (prewrite_adds h b) ms))) (omega arith)
