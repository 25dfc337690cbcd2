-- How far a page is written.
use Rattle.std.specs.Prelude.{◌≡◌, ℕ, ◌-◌, ◌^◌, ◌<◌, ◌≤◌, List, ◌++◌, length, All}
use Rattle.iq_root.specs.Roots.{zeros}
use Rattle.iq_root.specs.declared.root.Root.{Root}

-- a page is written up to a place: these bytes stand there, and zeros behind them
pub record IsDone (at : ℕ) (done page : List ℕ) : Type 0 where
  pub size : length done ≡ at
  pub page_is : page ≡ done ++ zeros (1008 - at)

-- the numbers of a root fit into a body
pub record RootFits (root : Root) : Type 0 where
  pub generation : root.generation < 2 ^ 64
  pub format : root.format < 2 ^ 32
  pub count : root.count < 2 ^ 32
  pub few : length root.tables ≤ 64
  pub tables : All (λ x. x < 2 ^ 32) root.tables
