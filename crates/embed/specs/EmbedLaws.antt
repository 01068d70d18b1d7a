-- Laws of the host's functions, one for each way out: the reader's refusal, the start's, and the reports one after another.
use Rattle.std.specs.Prelude.{ℕ, ◌+◌, ◌≤◌, ◌<◌, List, ◌≡◌, length, drop, get_or, Ok, Err}
use Rattle.std.proofs.Math.Numerals.{add-one}
use Rattle.std.proofs.Common.{◌∙◌, drop_of_length-le, drop-cons}
use Rattle.answers.specs.declared.Refusal.{Refusal}
use Rattle.answers.specs.Answer.{Accepted}
use Rattle.plan_text.specs.declared.PlanRead.{PlanRead}
use Rattle.plan_text.specs.Read.{read_plan}
use Rattle.answers.specs.AnswerLaws.{goes_on, stops}
use Rattle.acceptance.specs.declared.Analysis.{Analysis}
use Rattle.acceptance.specs.Analysis.{analysis}
use Rattle.executive.specs.declared.Run.{Run}
use Rattle.entries.specs.declared.Kind.{Kind}
use Rattle.executive.specs.declared.Started.{Started}
use Rattle.executive.specs.declared.Stepped.{Stepped}
use Rattle.executive.specs.Run.{start}
use Rattle.executive.specs.Step.{step}
use Rattle.embed.specs.Embed.{analysed, kind_of, walk_from, walked}

module _ (text : List ℕ) (read : PlanRead) (er : read ≡ read_plan text) where
  -- the reader refuses: that is the answer
  pub analysis_unread : (e : Refusal) → read.answer ≡ Err e → Err e ≡ analysed text
  unfolding analysed
  analysis_unread e h = rw (← er) (stops read.answer _ e h)

  pub walk_unread : (kinds : List ℕ) (e : Refusal) → read.answer ≡ Err e → Err e ≡ walked text kinds
  unfolding walked
  walk_unread kinds e h = rw (← er) (stops read.answer _ e h)

  module _ (u : Unit {0}) (h : read.answer ≡ Ok u) where
    pub analysis_made : (a : Analysis) → a ≡ analysis read.plan → a.answer ≡ analysed text
    unfolding analysed
    analysis_made a ea = rw (← er, ← ea) (goes_on read.answer _ h)

    module _ (kinds : List ℕ) (started : Started) (es : started ≡ start read.plan) where
      -- the plan is not accepted
      pub walk_unstarted : (e : Refusal) → started.answer ≡ Err e → Err e ≡ walked text kinds
      unfolding walked
      walk_unstarted e g = rw (← er, ← es) (stops started.answer _ e g ∙ goes_on read.answer _ h)

      pub walk_started : (v : Unit {0}) → started.answer ≡ Ok v → walk_from started.run kinds ≡ walked text kinds
      unfolding walked
      walk_started v g = rw (← er, ← es) (goes_on started.answer _ g ∙ goes_on read.answer _ h)

-- no kind is left
pub walk_end : (r : Run) (kinds : List ℕ) (i : ℕ) → length kinds ≤ i → Accepted ≡ walk_from r (drop i kinds)
unfolding walk_from
walk_end r kinds i h = rw (drop_of_length-le kinds h)

module _ (r : Run) (kinds : List ℕ) (i : ℕ) (h : i < length kinds) (kind : Kind) (ek : kind ≡ kind_of (get_or kinds i 0))
    (stepped : Stepped) (es : stepped ≡ step r (record { slot = r.t; kind = kind })) where
  -- the report of kind i is accepted: the answer from here is the answer from the next on
  pub walk_on : (u : Unit {0}) → stepped.answer ≡ Ok u → walk_from stepped.run (drop (i + 1) kinds) ≡ walk_from r (drop i kinds)
  unfolding walk_from
  walk_on u g = rw (drop-cons kinds i 0 h, ← ek, ← es, add-one i) (goes_on stepped.answer _ g)

  -- it is refused: that is the answer
  pub walk_refused : (e : Refusal) → stepped.answer ≡ Err e → Err e ≡ walk_from r (drop i kinds)
  unfolding walk_from
  walk_refused e g = rw (drop-cons kinds i 0 h, ← ek, ← es) (stops stepped.answer _ e g)
