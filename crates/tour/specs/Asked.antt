-- What the steps of a tour ask.
use Rattle.std.specs.Prelude.{◌≡◌, ℕ, ◌<◌, ◌≤◌, List, length}
use Rattle.rules.specs.Tree.{slots}
use Rattle.tour.specs.declared.touring.Visit.{Visit}

---- what is hidden

pub record RevealSized (parents hidden : List ℕ) : Type 0 where
  pub parents_size : length parents ≡ slots
  pub hidden_size : length hidden ≡ slots

pub record HidingSized (parents marks hidden : List ℕ) : Type 0 where
  pub marks_size : length marks ≡ slots
  pub others : RevealSized parents hidden

pub record HidingAt (parents marks hidden : List ℕ) (k : ℕ) : Type 0 where
  pub sized : HidingSized parents marks hidden
  pub inside : k < slots

---- links and the tour

pub record TourSized (parents marks first next : List ℕ) : Type 0 where
  pub parents_size : length parents ≡ slots
  pub marks_size : length marks ≡ slots
  pub first_size : length first ≡ slots
  pub next_size : length next ≡ slots

pub record LinkableAt (parents marks first next : List ℕ) (k : ℕ) : Type 0 where
  pub sized : TourSized parents marks first next
  pub inside : k < slots

-- a stack that grows towards its front has room
pub record Pushable (stack : List Visit) (top : ℕ) : Type 0 where
  pub room : 0 < top
  pub within : top ≤ length stack

pub record LinksSized (first next : List ℕ) : Type 0 where
  pub first_size : length first ≡ slots
  pub next_size : length next ≡ slots

-- a stack with a visit, and room for one more than that
pub record Visitable (first next : List ℕ) (stack : List Visit) (top : ℕ) : Type 0 where
  pub links_size : LinksSized first next
  pub room : 0 < top
  pub within : top < length stack

pub record Tourable (first next : List ℕ) (order : List Visit) : Type 0 where
  pub links_size : LinksSized first next
  pub order_size : length order ≡ slots
