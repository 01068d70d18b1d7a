-- `embed_walk` meets its contract: the answer's number and places.
use mathlib.Core.Path.{ap, ◌∙◌}
use Rattle.answers.specs.Answer.{number_of}
use Rattle.embed.specs.Embed.{both_places}
use Rattle.embed.proofs.embed_walk.Goals as goal

pub returns : goal.returns
returns c = record { value = c.told.ensures.value ∙ ap number_of c.walked.ensures; places_after = c.told.ensures.places_after ∙ ap both_places c.walked.ensures }
