-- The cells of a game as those of its context with the left side: the key's `new` is the choice of a key, and that of a coin is what
-- the call of its site draws. Blanchet and Pointcheval, CRYPTO 2006; that cells are swapped, so that none is lost, is this profile's own.
use Rattle.std.specs.Prelude.{ℕ, suc, Bool, true, false, not, ◌&&◌, ◌==◌, if◌then◌else◌, List, [], ◌∷◌, Option, Some, None}
use Rattle.cv_syntax_trees.specs.Tree.{Tree}
use Rattle.cv_meaning.specs.Tapes.{Cell, Key_at, Made_at, New_at}
use Rattle.cv_syntax_trees.specs.sites.Sites.{first_of}
use Rattle.cv_scene.specs.Sights.{variable_of}
use Rattle.cv_scene.specs.Instances.{is_read_of}
use Rattle.cv_scene.specs.Sites.{Site}
use Rattle.cv_scene.specs.Reductions.{Reduction, sites}

-- a coin of a site, by its name in the body and the number of the site
pub record Coin : Type 0 where
  pub name : ℕ
  pub site : ℕ

-- the coin for which a variable stands at a site, and at the first one of a list of sites, numbered from a number on

abbrev pub coin_by : (site : ℕ) → List (ℕ × ℕ) → List Tree → (variable : ℕ) → Option Coin
coin_by n (z ∷ zs) (m ∷ ms) y = if is_read_of y (variable_of m) then Some (record { name = z.0; site = n }) else coin_by n zs ms y
coin_by n zs ms y = None

abbrev pub coin_from : (number : ℕ) → List Site → (variable : ℕ) → Option Coin
coin_from n [] y = None
coin_from n (c ∷ cs) y = first_of (coin_by n c.call.function.coins c.call.instance.coins y) (coin_from (suc n) cs y)

-- the variable that stands for a coin

abbrev pub variable_by : List (ℕ × ℕ) → List Tree → (name : ℕ) → Option ℕ
variable_by (z ∷ zs) (m ∷ ms) x = if z.0 == x then variable_of m else variable_by zs ms x
variable_by zs ms x = None

abbrev pub variable_from : (number : ℕ) → List Site → Coin → Option ℕ
variable_from n [] k = None
variable_from n (c ∷ cs) k = if n == k.site then variable_by c.call.function.coins c.call.instance.coins k.name else variable_from (suc n) cs k

-- a variable and a coin that stand for each other, where the variable is not the key's

abbrev pub is_that_coin : Coin → Option Coin → Bool
is_that_coin k None = false
is_that_coin k (Some j) = (j.name == k.name) && (j.site == k.site)

abbrev pub are_paired : Reduction → (variable : ℕ) → Coin → Bool
are_paired r y k = not (y == r.key) && (is_read_of y (variable_from 0 (sites r) k) && is_that_coin k (coin_from 0 (sites r) y))

abbrev pub made_if : Bool → (variable : ℕ) → (tuple : List ℕ) → Coin → Cell
made_if true y w k = Made_at k.name w k.site
made_if false y w k = New_at y w

abbrev pub made_by : Reduction → (variable : ℕ) → (tuple : List ℕ) → Option Coin → Cell
made_by r y w None = New_at y w
made_by r y w (Some k) = made_if (are_paired r y k) y w k

abbrev pub new_if : Bool → (variable : ℕ) → (tuple : List ℕ) → Coin → Cell
new_if true y w k = New_at y w
new_if false y w k = Made_at k.name w k.site

abbrev pub new_by : Reduction → (tuple : List ℕ) → Coin → Option ℕ → Cell
new_by r w k None = Made_at k.name w k.site
new_by r w k (Some y) = new_if (are_paired r y k) y w k

abbrev pub at_left : Reduction → Cell → Cell
at_left r (New_at y w) = if y == r.key then Key_at w else made_by r y w (coin_from 0 (sites r) y)
at_left r (Key_at w) = New_at r.key w
at_left r (Made_at z w n) = new_by r w (record { name = z; site = n }) (variable_from 0 (sites r) (record { name = z; site = n }))
at_left r c = c
