-- The names of defs while those of a page are listed.
use Rattle.std.specs.Prelude.{◌≡◌, ℕ, List, [], length, Option, Some, slice_get}
use Rattle.boc_names.specs.Names.{Text}
use Rattle.boc_page.specs.Columns.{shown_name}

-- Of the names that are listed the one at the place that is noted is empty, and no other.
pub record AreListed (names : List Text) (nameless : Option ℕ) : Type 0 where
  pub noted : (place : ℕ) → nameless ≡ Some place → slice_get names place ≡ Some []
  pub alone : (place : ℕ) → slice_get names place ≡ Some [] → nameless ≡ Some place

-- Each name that was listed is listed at the same place.
pub record StayListed (old new : List Text) : Type 0 where
  pub at : (place : ℕ) (name : Text) → slice_get old place ≡ Some name → slice_get new place ≡ Some name

-- The places of defs among the names that are listed.
pub record ArePlaces (def_names listed : List Text) (places : List ℕ) : Type 0 where
  pub whole : length places ≡ length def_names
  pub at : (d place : ℕ) (name : Text) → slice_get def_names d ≡ Some name → slice_get places d ≡ Some place → slice_get listed place ≡ Some (shown_name name)
