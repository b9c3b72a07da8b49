-- What a tree of a game becomes in its context, construct by construct, with the numbers of the sites in it.
use Rattle.std.proofs.Common.{◌≡◌, ℕ, suc, ◌≤◌, Bool, true, false, ◌&&◌, List}
use Rattle.std.specs.List.{AllByRecursion}
use Rattle.cv_syntax_trees.specs.declared.head.Head.{Head}
use Rattle.cv_syntax_trees.specs.declared.head.Head.TheVariants.{Leaf, Read, Apply, Eq, And, Or, Not, Yes, No, Cons, Name, Binder, New, Key, Call}
use Rattle.cv_syntax_trees.specs.Tree.{Tree, Empty, Node}
use Rattle.cv_syntax_trees.specs.sites.Sites.{site_here}
use Rattle.cv_scope_rules.specs.Context.{first_position, replications_below, second_position}
use Rattle.cv_scope_rules.specs.Sites.{Site, SiteName, Variable, sites_here}
use Rattle.cv_scope_rules.specs.declared.position.Position.{Position}
use Rattle.cv_scope_rules.specs.declared.position.Position.TheVariants.{Anywhere}
use Rattle.cv_scene.specs.Reductions.{Reduction, is_answer}

-- trees of terms and of lists, which define nothing

abbrev pub is_still_head : Head → Bool
is_still_head (Leaf x) = true
is_still_head (Read x) = true
is_still_head (Apply f) = true
is_still_head Eq = true
is_still_head And = true
is_still_head Or = true
is_still_head Not = true
is_still_head Yes = true
is_still_head No = true
is_still_head Cons = true
is_still_head (Name i) = true
is_still_head (Binder x T) = true
is_still_head h = false

unfoldable pub is_still : Tree → Bool
is_still Empty = true
is_still (Node h a b) = is_still_head h && (is_still a && is_still b)

abbrev pub is_answer_name : Reduction → SiteName → Bool
is_answer_name r (Variable x) = is_answer r x
is_answer_name r s = false

abbrev pub IsNoAnswer : Reduction → Site → Type 0
IsNoAnswer r s = is_answer_name r s.name ≡ false

-- a construct stays, with the sites that its first child gives it
pub record Stays (r : Reduction) (h : Head) (a c : Tree) : Type 0 where
  pub sites : (rs : List (ℕ × ℕ)) (p : ℕ) → sites_here rs p h c ≡ sites_here rs p h a
  pub made : (x : ℕ) → site_here x h c ≡ site_here x h a
  pub answers : (rs : List (ℕ × ℕ)) (p : ℕ) → AllByRecursion (IsNoAnswer r) (sites_here rs p h a)

-- calls from j to k before a tree
pub data AreCalls (r : Reduction) : ℕ → ℕ → Tree → Tree → Type 0 where
  none : {j : ℕ} {t : Tree} → AreCalls r j j t t
  call : {j k : ℕ} {m t u : Tree} → is_still m ≡ true → AreCalls r (suc j) k t u → AreCalls r j k t (Node (Call (r.answer j) j) m u)

pub data Becomes (r : Reduction) : Position → List (ℕ × ℕ) → ℕ → ℕ → Tree → Tree → Type 0 where
  still : {w : Position} {rs : List (ℕ × ℕ)} {j k : ℕ} {t : Tree} → j ≤ k → is_still t ≡ true → Becomes r w rs j k t t
  node : {w : Position} {rs : List (ℕ × ℕ)} {j k l : ℕ} {h : Head} {a b c d : Tree} → Stays r h a c → Becomes r (first_position w h) rs j k a c → Becomes r (second_position w h) (replications_below h rs) k l b d → Becomes r w rs j l (Node h a b) (Node h c d)
  coin : {rs : List (ℕ × ℕ)} {i j k x T : ℕ} {a b d : Tree} → is_still a ≡ true → is_answer r x ≡ false → j ≤ i → Becomes r Anywhere rs i k b d → Becomes r Anywhere rs j k (Node (New x T) a b) d
  key : {rs : List (ℕ × ℕ)} {i j k x T : ℕ} {a b d : Tree} → is_still a ≡ true → is_answer r x ≡ false → j ≤ i → Becomes r Anywhere rs i k b d → Becomes r Anywhere rs j k (Node (New x T) a b) (Node (Key x) Empty d)
  statement : {rs : List (ℕ × ℕ)} {j k l : ℕ} {h : Head} {a b c d t : Tree} → Stays r h a c → is_still a ≡ true → is_still c ≡ true → Becomes r (second_position Anywhere h) (replications_below h rs) k l b d → AreCalls r j k (Node h c d) t → Becomes r Anywhere rs j l (Node h a b) t
