-- Document 01: "Sound record: its commit equals its write stamp; start not 0; Put and Delete have commit above start, Rollback has
-- commit equal to start; otherwise 9. Sound lock: transaction, start, time to live not 0, kind Put or Delete, primary a key."
-- Assumes nothing.
use Rattle.std.specs.Prelude.{ℕ, Bool, true, ◌&&◌, not, List, [], ◌∷◌, ltb, eqb}
use Rattle.forms.specs.Key.{key_form}
use Rattle.rules.specs.declared.records.Kind.{Kind}
use Rattle.rules.specs.declared.records.Kind.TheVariants.{Put, Delete, Rollback}
use Rattle.rules.specs.declared.records.Record.{Record}
use Rattle.rules.specs.Box.{Lock, eq_kind}

-- "Put and Delete have commit above start, Rollback has commit equal to start"
abbrev pub kind_fits : Kind → ℕ → ℕ → Bool
kind_fits Put start commit = ltb start commit
kind_fits Delete start commit = ltb start commit
kind_fits Rollback start commit = eqb commit start

-- "its commit equals its write stamp; start not 0; .."
abbrev pub sound_record : Record → Bool
sound_record w = eqb w.commit w.stamp && not (eqb w.start 0) && kind_fits w.kind w.start w.commit

-- each record of a list is sound
unfoldable pub all_sound : List Record → Bool
all_sound [] = true
all_sound (w ∷ ws) = sound_record w && all_sound ws

-- "transaction, start, time to live not 0, kind Put or Delete, primary a key"
unfoldable pub sound_lock : Lock → Bool
sound_lock l =
    not (eqb l.txn 0) && not (eqb l.start 0) && not (eqb l.ttl 0) && not (eq_kind l.kind Rollback) && key_form l.primary
