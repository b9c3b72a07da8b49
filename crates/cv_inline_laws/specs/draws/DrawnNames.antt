-- The names that are drawn for a context's next game, by number: what each is for is found from the name, and what is drawn for is
-- all that the texts of the right side bind. This profile's own.
use Rattle.std.specs.Prelude.{◌≡◌, ℕ, zero, suc, Bool, true, ◌&&◌, ◌==◌, List, [], ◌∷◌, map, length, Option, Some, None}
use Rattle.std.specs.List.{AllByRecursion, IsDistinct, list_any}
use Rattle.cv_syntax_trees.specs.declared.head.Head.TheVariants.{New, Let, If, Find, Branch, Cons, Binder}
use Rattle.cv_syntax_trees.specs.Tree.{Tree, Node, first_place, second_place}
use Rattle.cv_meaning.specs.contexts.Groups.{Group}
use Rattle.cv_meaning.specs.contexts.Bodies.{body_place}
use Rattle.cv_meaning.specs.contexts.Roles.{Role, Variable, Index}
use Rattle.cv_meaning.specs.contexts.Inlined.{Drawn, Caller}
use Rattle.cv_inline.specs.NextGame.{Calling}
use Rattle.cv_inline.specs.Draws.{Draw, draws_of, drawn_by, drawn_for, is_drawn, label_draws, roles_of, same_find, same_role}

-- numbers in a row, one for each item of a list
abbrev pub numbers_from : {A : Type 0} → ℕ → List A → List ℕ
numbers_from n [] = []
numbers_from n (d ∷ ds) = n ∷ numbers_from (suc n) ds

-- what is drawn, the names and labels in that order, and the roles of the names that aren't drawn
pub record DrawnNames : Type 0 where
  pub draws : List Draw
  pub names : List ℕ
  pub finds : List (ℕ × ℕ)
  pub labels : List ℕ
  pub game_role : ℕ → Role

-- those of a context with this right side, as these sites call it
abbrev pub names_of_draws : Group → List Calling → (names labels : List ℕ) → (ℕ → Role) → DrawnNames
names_of_draws g cs names labels role = record { draws = draws_of g cs; names = names; finds = label_draws cs; labels = labels; game_role = role }

module _ (d : DrawnNames) where
  abbrev pub drawn_in : Drawn
  drawn_in = drawn_by d.draws d.names d.finds d.labels

  -- what a name is
  abbrev pub role_in : ℕ → Role
  role_in y = drawn_for d.game_role (roles_of d.draws) d.names y

  abbrev pub is_new : ℕ → Bool
  is_new y = list_any (λ x. x == y) d.names

  -- the find that has a drawn label
  abbrev pub find_in : ℕ → Option (ℕ × ℕ)
  find_in l = drawn_for (λ k. None) (map (λ (f : ℕ × ℕ). Some f) d.finds) d.labels l

  abbrev pub is_drawn_for : Role → Bool
  is_drawn_for r = is_drawn same_role (roles_of d.draws) r

  -- a name is drawn at a site
  abbrev pub has_name : (site name : ℕ) → Bool
  has_name s v = is_drawn_for (Variable s v)

  abbrev pub has_find : (site place : ℕ) → Bool
  has_find s q = is_drawn same_find d.finds (s, q)

  -- the indices from a number on, so many, of a branch of a find over the calls of a site
  abbrev pub has_indices : (site place other branch from count : ℕ) → Bool
  has_indices s q o b j zero = true
  has_indices s q o b j (suc k) = is_drawn_for (Index s q o b j) && has_indices s q o b (suc j) k

  -- there are as many names and labels as draws, and none twice
  pub record AreApart : Type 0 where
    pub names : length d.names ≡ length d.draws
    pub names_apart : IsDistinct ◌==◌ d.names
    pub labels : length d.labels ≡ length d.finds
    pub labels_apart : IsDistinct ◌==◌ d.labels

  -- what a body binds at a site is drawn: its names, its finds, and the indices of each branch for each site

  unfoldable pub AreIndicesDrawn : (site place : ℕ) → Caller → (branch : ℕ) → Tree → Type 0
  AreIndicesDrawn c q s k (Node Cons (Node Branch (Node (Binder u n) x y) rest) more) =
      ((s.bound == n) ≡ true → has_indices c q s.number k 0 (length s.replications) ≡ true) × AreIndicesDrawn c q s (suc k) more
  AreIndicesDrawn c q s k _ = Unit {0}

  unfoldable mutual
    pub IsBodyDrawn : List Caller → (site place : ℕ) → Tree → Type 0
    IsBodyDrawn ss c q (Node (New z T) a b) = (has_name c z ≡ true) × IsBodyDrawn ss c (second_place q (New z T) a) b
    IsBodyDrawn ss c q (Node (Let z T) a b) = (has_name c z ≡ true) × IsBodyDrawn ss c (second_place q (Let z T) a) b
    IsBodyDrawn ss c q (Node If a (Node h b (Node j e f))) =
        IsBodyDrawn ss c (first_place (second_place q If a) h) b × IsBodyDrawn ss c (first_place (second_place (second_place q If a) h b) j) e
    IsBodyDrawn ss c q (Node (Find l) a b) =
        (has_find c q ≡ true) × AllByRecursion (λ s. AreIndicesDrawn c q s 0 a) ss × AreBranchesDrawn ss c (first_place q (Find l)) a × IsBodyDrawn ss c (second_place q (Find l) a) b
    IsBodyDrawn ss c q m = Unit {0}

    pub AreBranchesDrawn : List Caller → (site place : ℕ) → Tree → Type 0
    AreBranchesDrawn ss c r (Node Cons (Node Branch us (Node Cons cells (Node Cons m body))) more) =
        IsBodyDrawn ss c (body_place r Cons Branch us Cons cells Cons m) body × AreBranchesDrawn ss c (second_place r Cons (Node Branch us (Node Cons cells (Node Cons m body)))) more
    AreBranchesDrawn ss c r _ = Unit {0}

  -- so is what a call's function binds
  pub record IsCallDrawn (ss : List Caller) (c : Calling) : Type 0 where
    pub arguments : AllByRecursion (λ (x : ℕ × ℕ). has_name c.caller.number x.0 ≡ true) c.function.arguments
    pub body : IsBodyDrawn ss c.caller.number 0 c.function.body
