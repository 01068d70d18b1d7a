-- The writer's sheet: an output and the place in it where the next line goes.
use Rattle.std.specs.Prelude.{ℕ, ◌≡◌, List}
use Rattle.lines.specs.Writing.{put_fit, place_after}
use Rattle.plan_text.specs.declared.writer.Sheet.{Sheet}

-- the text is put on the sheet, which stays on the same output
pub record Puts (text : List ℕ) (before after : Sheet) : Type 0 where
  pub place : after.at ≡ place_after before.at text before.out.now
  pub written : after.out.now ≡ put_fit before.at text before.out.now
  pub same_output : after.out.ghost_name ≡ before.out.ghost_name
