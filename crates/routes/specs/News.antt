-- What a tap begins, as the code holds it. No rule stands here.
use Rattle.std.specs.Prelude.{◌≡◌, Bool, true, false, List}
use Rattle.board.specs.Groups.{Tap}
use Rattle.routes.specs.Stops.{new_group, new_row, new_column}
use Rattle.routes.specs.declared.news.News.{News}
use Rattle.routes.specs.declared.news.News.TheVariants.{Nothing, Column, Row, Group}

-- A group begins a row too, and a row a column.
abbrev pub begins_group : News → Bool
begins_group Group = true
begins_group Row = false
begins_group Column = false
begins_group Nothing = false

abbrev pub begins_row : News → Bool
begins_row Group = true
begins_row Row = true
begins_row Column = false
begins_row Nothing = false

abbrev pub begins_column : News → Bool
begins_column Group = true
begins_column Row = true
begins_column Column = true
begins_column Nothing = false

-- What a tap begins behind these, in the rules' words.
pub record NewsOf (l : List Tap) (t : Tap) (news : News) : Type 0 where
  pub group : begins_group news ≡ new_group l t
  pub row : begins_row news ≡ new_row l t
  pub column : begins_column news ≡ new_column l t
