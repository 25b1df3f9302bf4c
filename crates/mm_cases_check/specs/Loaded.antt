-- What holds of views into which files were loaded.
use Rattle.std.specs.Prelude.{◌≡◌, []}
use Rattle.mm_views.specs.State.{State}

-- nothing is made, opened or closed
pub record IsLoaded (v : State) : Type 0 where
  pub made : v.made ≡ []
  pub opened : v.opened ≡ []
  pub closed : v.closed ≡ []
