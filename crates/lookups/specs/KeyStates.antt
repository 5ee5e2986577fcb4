-- What the lookup says of a key in the box.
-- Assumes nothing.
use Rattle.std.specs.Prelude.{◌≡◌, Bool, true, false, ◌&&◌, not, List, [], ◌∷◌, ℕ, ◌+◌, ◌≤◌, ltb, leb, eqb, None, Some}
use Rattle.std.specs.Prelude.{Option as Maybe}
use Rattle.std.proofs.Math.Option.{Option, none, some}
use Rattle.forms.specs.Bytes.{Bytes}
use Rattle.forms.specs.Key.{Key}
use Rattle.forms.specs.Numbers.{either_if}
use Rattle.rules.specs.declared.records.Kind.TheVariants.{Put, Rollback}
use Rattle.rules.specs.declared.records.Record.{Record}
use Rattle.rules.specs.Box as box
use Rattle.rules.specs.Calls.{all_below, stamped_at, record_for, found_if}
use Rattle.rules.specs.Commit.{with_start}
use Rattle.rules.specs.Read.{newest_first}
use Rattle.laws.specs.Places.{how_many, lines_before, finished_at}
use Rattle.store.specs.View.{box_of}
use Rattle.store.specs.Views.{lock_in, record_in, RowThere}
use Rattle.store.specs.declared.table.Store.{Store}
use Rattle.store.specs.declared.views.LockView.{LockView}
use Rattle.store.specs.declared.views.RecordView.{RecordView}
use Rattle.store.specs.declared.views.LineView.{LineView}
use Rattle.store.specs.declared.views.LineView.TheVariants as view
use Rattle.lookups.specs.declared.lookup.History.{History}
use Rattle.lookups.specs.declared.lookup.KeyState.{KeyState}

-- ---- what was found, in the box

-- a record of the key, if one was found; the key's lock, if it has one
abbrev pub Found : Type 0
Found = Maybe RecordView

abbrev pub Locked : Type 0
Locked = Maybe LockView

abbrev pub said : Found → Option Record
said None = none
said (Some w) = some (record_in w)

abbrev pub locked_by : Bytes → Locked → Option box.Lock
locked_by area None = none
locked_by area (Some i) = some (lock_in area i)

-- ---- one record more, after those before it

abbrev pub is_if : Bool → RecordView → Found → Found
is_if true w old = Some w
is_if false w old = old

abbrev pub first_found : Found → Bool → RecordView → Found
first_found (Some v) hit w = Some v
first_found None hit w = is_if hit w None

-- "Rollback, go on": of records in the way of a read, a Rollback is one more, and any other begins the count anew
abbrev pub examined_if : Bool → Bool → ℕ → ℕ
examined_if true true n = n + 1
examined_if true false n = 1
examined_if false rolled n = n

abbrev pub sight_after : Found → ℕ → ℕ → RecordView → Found × ℕ
sight_after old n moment w = (is_if (leb w.stamp moment && not (box.eq_kind w.kind Rollback)) w old, examined_if (leb w.stamp moment) (box.eq_kind w.kind Rollback) n)

abbrev pub no_history : History
no_history = record { below = true; above = true; started = None; stamped = None; visible = None; examined = 0 }

abbrev pub history_after : ℕ → ℕ → History → RecordView → History
history_after start stamp h w = record {
  below = h.below && ltb w.stamp start;
  above = h.above && ltb w.stamp stamp;
  started = first_found h.started (eqb start w.start) w;
  stamped = first_found h.stamped (eqb stamp w.stamp) w;
  visible = (sight_after h.visible h.examined stamp w).0;
  examined = (sight_after h.visible h.examined stamp w).1;
}

-- before the first line of the key
abbrev pub nothing_at : ℕ → KeyState
nothing_at first = record { first = first; place = first; lock = None; history = no_history }

-- one line more of the key, before the place `next`
abbrev pub see_line : ℕ → ℕ → ℕ → KeyState → LineView → KeyState
see_line start stamp next seen (view.Standing l) = record { first = seen.first; place = next; lock = Some l; history = seen.history }
see_line start stamp next seen (view.Finished w) =
    record { first = seen.first; place = either_if (ltb w.stamp stamp) next seen.place; lock = seen.lock; history = history_after start stamp seen.history w }

-- ---- what stands at a key

-- the first that is no Rollback
unfoldable pub not_rolled : List Record → Option Record
not_rolled [] = none
not_rolled (w ∷ ws) = found_if (not (box.eq_kind w.kind Rollback)) w (not_rolled ws)

-- how many of them a walk examines: those up to the first that is no Rollback
unfoldable pub examined_in : List Record → ℕ
examined_in [] = 0
examined_in (w ∷ ws) = examined_if true (box.eq_kind w.kind Rollback) (examined_in ws)

abbrev pub FoundThere : ℕ → Bytes → List box.Default → Key → Found → Type 0
FoundThere top area ds key None = Unit {0}
FoundThere top area ds key (Some w) = RowThere top area ds key w.start w.kind w.rowat w.rowlen

pub record IntentThere (top : ℕ) (area : Bytes) (ds : List box.Default) (key : Key) (i : LockView) : Type 0 where
  pub primary_in : i.at + i.len ≤ top
  pub row : RowThere top area ds key i.start i.kind i.rowat i.rowlen

abbrev pub LockThere : ℕ → Bytes → List box.Default → Key → Locked → Type 0
LockThere top area ds key None = Unit {0}
LockThere top area ds key (Some i) = IntentThere top area ds key i

pub record HistoryAt (top : ℕ) (area : Bytes) (ds : List box.Default) (key : Key) (start stamp : ℕ) (ws : List Record) (h : History) : Type 0 where
  pub below : h.below ≡ all_below start ws
  pub above : h.above ≡ all_below stamp ws
  pub started : said h.started ≡ with_start start ws
  pub stamped : said h.stamped ≡ stamped_at stamp ws
  pub visible : said h.visible ≡ not_rolled (newest_first stamp ws)
  pub examined : h.examined ≡ examined_in (newest_first stamp ws)
  pub started_row : FoundThere top area ds key h.started
  pub stamped_row : FoundThere top area ds key h.stamped
  pub visible_row : FoundThere top area ds key h.visible

-- a record of the key, of which only the stamp tells where it stands
abbrev pub stamp_line : Key → ℕ → box.KeyLine
stamp_line k stamp = finished_at k (record_for 0 stamp Put)

-- how many lines stand before a record of the key with this stamp
abbrev pub record_place : Key → ℕ → List box.KeyLine → ℕ
record_place k stamp es = how_many (λ (e : box.KeyLine). box.before e (stamp_line k stamp)) es

pub record KeyStateAt (st : Store) (area key : Bytes) (start stamp : ℕ) (r : KeyState) : Type 0 where
  pub first_is : r.first ≡ lines_before key (box_of st area).lines
  pub place_is : r.place ≡ record_place key stamp (box_of st area).lines
  pub lock_is : locked_by area r.lock ≡ box.lock_of key (box_of st area).lines
  pub lock_there : LockThere st.top area (box_of st area).defaults key r.lock
  pub history : HistoryAt st.top area (box_of st area).defaults key start stamp (box.records_of key (box_of st area).lines) r.history
