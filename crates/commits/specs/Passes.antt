-- The steps of the call from 14 on.
-- Assumes nothing.
use Rattle.std.specs.Prelude.{ℕ, List, ltb}
use Rattle.forms.specs.Key.{Key}
use Rattle.rules.specs.Answers.{Answer, ◌▸◌, need}
use Rattle.rules.specs.Box.{Box}
use Rattle.rules.specs.Calls.{Done, settle}
use Rattle.rules.specs.declared.terms.CommitTerms.{CommitTerms}
use Rattle.rules.specs.Commit.{commit_keys, apply_commits}

-- 14, the last of the terms; "per key: .."
abbrev pub floor_keys : ℕ → CommitTerms → Box → List Key → Answer
floor_keys floor h b ks = need (ltb floor h.start) 14 ▸ commit_keys h b ks

unfoldable pub all_done : ℕ → CommitTerms → List Key → Box → Done
all_done floor h ks b = settle (floor_keys floor h b ks) (apply_commits h ks b) b
