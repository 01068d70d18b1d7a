-- What the functions for a host program answer: each starts from a text and keeps nothing between calls.
use Rattle.std.specs.Prelude.{ℕ, List, [], ◌∷◌, get_or, if◌then◌else◌, Result, Ok, Err}
use Rattle.words.specs.Words.{◌=?◌}
use Rattle.answers.specs.declared.Refusal.{Refusal}
use Rattle.answers.specs.Answer.{Answer, Accepted, places_of, ◌and_then◌}
use Rattle.plan_text.specs.Read.{read_plan}
use Rattle.acceptance.specs.Analysis.{analysis}
use Rattle.executive.specs.declared.Run.{Run}
use Rattle.entries.specs.declared.Kind.{Kind}
use Rattle.executive.specs.Run.{start}
use Rattle.executive.specs.Step.{step}

-- an answer's first place and its second, 0 for one that it does not have
abbrev pub both_places : Answer → List ℕ
both_places a = get_or (places_of a) 0 0 ∷ get_or (places_of a) 1 0 ∷ []

-- how many bytes were written; none by a refusal
unfoldable pub bytes_written : Result ℕ Refusal → ℕ
bytes_written (Ok bytes) = bytes
bytes_written (Err refusal) = 0

-- the reader's answer, then the analysis'
unfoldable pub analysed : List ℕ → Answer
analysed text =
    let read = read_plan text in
    read.answer and_then (analysis read.plan).answer

-- 0 is none, 1 is end, any other byte is more
unfoldable pub kind_of : ℕ → Kind
kind_of byte = if byte =? 0 then Kind.None else if byte =? 1 then Kind.End else Kind.More

-- a report of each kind in turn, each for slot t: the first refusal
unfoldable pub walk_from : Run → List ℕ → Answer
walk_from r [] = Accepted
walk_from r (k ∷ ks) =
    let stepped = step r (record { slot = r.t; kind = kind_of k }) in
    let later = walk_from stepped.run ks in
    stepped.answer and_then later

-- the reader's answer, then the start's, then the reports'
unfoldable pub walked : List ℕ → List ℕ → Answer
walked text kinds =
    let read = read_plan text in
    let started = start read.plan in
    read.answer and_then started.answer and_then walk_from started.run kinds
