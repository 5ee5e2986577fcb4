-- The laws of `verdicts`.
pub mod VerdictLaws
