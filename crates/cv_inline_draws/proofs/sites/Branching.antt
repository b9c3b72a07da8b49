-- Branches, and the bodies below a body, by their heads.
use Rattle.std.proofs.Common.{◌≡◌, ℕ, true, false, List, [], ◌++◌, refl, ap, ap₂, sym, ◌∙◌}
use Rattle.cv_pool.specs.KindTree.{KindTree}
use Rattle.cv_syntax_trees.specs.declared.head.Head.{Head}
use Rattle.cv_syntax_trees.specs.declared.head.Head.TheVariants.{New, Let, If, Find, Branch, Cons}
use Rattle.cv_syntax_trees.specs.Tree.{Tree, Empty, Node, first_place, second_place}
use Rattle.cv_syntax.specs.PoolTrees.{tree_at}
use Rattle.cv_meaning.specs.contexts.Bodies.{body_place}
use Rattle.cv_meaning.specs.contexts.Inlined.{Caller}
use Rattle.cv_inline.specs.Draws.{body_draws, branches_draws}
use Rattle.cv_inline_draws.specs.sites.Parts.{draws_at, draws_below, have_form, if_draws, own_draws}
use Rattle.cv_inline_sites.specs.listing.Subtrees.{IsNodeAt}
use Rattle.cv_inline_sites.specs.declared.listing.subtree.Subtree.{Subtree}
use Rattle.cv_inline_sites.specs.declared.listing.subtree.Parent.{Parent}

module _ (ss : List Caller) (c : ℕ) where
  form_1 : (r : ℕ) (h : Head) (more : Tree) → branches_draws ss c r (Node h Empty more) ≡ []
  unfolding body_draws branches_draws
  form_1 r Cons more = refl
  form_1 r h more = refl

  form_2 : (r : ℕ) (h k : Head) (us more : Tree) → branches_draws ss c r (Node h (Node k us Empty) more) ≡ []
  unfolding body_draws branches_draws
  form_2 r Cons Branch us more = refl
  form_2 r Cons k us more = refl
  form_2 r h k us more = refl

  form_3 : (r : ℕ) (h k i : Head) (us cells more : Tree) → branches_draws ss c r (Node h (Node k us (Node i cells Empty)) more) ≡ []
  unfolding body_draws branches_draws
  form_3 r Cons Branch Cons us cells more = refl
  form_3 r Cons Branch i us cells more = refl
  form_3 r Cons k i us cells more = refl
  form_3 r h k i us cells more = refl

  other_form : (r : ℕ) (h k i j : Head) (us cells m body more : Tree) → have_form h k i j ≡ false → branches_draws ss c r (Node h (Node k us (Node i cells (Node j m body))) more) ≡ []
  unfolding body_draws branches_draws
  other_form r Cons Branch Cons Cons us cells m body more e = absurd (cc)
  other_form r Cons Branch Cons j us cells m body more e = refl
  other_form r Cons Branch i j us cells m body more e = refl
  other_form r Cons k i j us cells m body more e = refl
  other_form r h k i j us cells m body more e = refl

  whole_form : (r : ℕ) (h k i j : Head) (us cells m body more : Tree) → have_form h k i j ≡ true →
      branches_draws ss c r (Node h (Node k us (Node i cells (Node j m body))) more) ≡ body_draws ss c (body_place r h k us i cells j m) body ++ branches_draws ss c (second_place r h (Node k us (Node i cells (Node j m body)))) more
  unfolding body_draws branches_draws
  whole_form r Cons Branch Cons Cons us cells m body more e = refl
  whole_form r Cons Branch Cons j us cells m body more e = absurd (cc)
  whole_form r Cons Branch i j us cells m body more e = absurd (cc)
  whole_form r Cons k i j us cells m body more e = absurd (cc)
  whole_form r h k i j us cells m body more e = absurd (cc)

  pub no_list : (r : ℕ) (t : Tree) → t ≡ Empty → branches_draws ss c r t ≡ []
  unfolding body_draws branches_draws
  no_list r t e = ap (branches_draws ss c r) e

  body_parts_if : (q : ℕ) (a b : Tree) → body_draws ss c q (Node If a b) ≡ if_draws ss c (second_place q If a) b
  unfolding body_draws branches_draws
  body_parts_if q a Empty = refl
  body_parts_if q a (Node h b Empty) = refl
  body_parts_if q a (Node h b (Node j e f)) = refl

  -- what is drawn for a body: for its node, and for the bodies below
  pub body_parts : (q : ℕ) (t : Tree) → body_draws ss c q t ≡ own_draws ss c q t ++ draws_below ss c q t
  unfolding body_draws branches_draws
  body_parts q Empty = refl
  body_parts q (Node (New z T) a b) = refl
  body_parts q (Node (Let z T) a b) = refl
  body_parts q (Node If a b) = body_parts_if q a b
  body_parts q (Node (Find l) a b) = refl
  body_parts q (Node h a b) = refl

  -- the bodies below, by the head of the node

  pub below_New : (q : ℕ) (t : Tree) (h : Head) (a b : Tree) (z T : ℕ) → t ≡ Node h a b → h ≡ New z T → draws_below ss c q t ≡ body_draws ss c (second_place q h a) b
  below_New q t h a b z T e f = ap (draws_below ss c q) (e ∙ ap (λ k. Node k a b) f) ∙ ap (λ k. body_draws ss c (second_place q k a) b) (sym f)

  pub below_Let : (q : ℕ) (t : Tree) (h : Head) (a b : Tree) (z T : ℕ) → t ≡ Node h a b → h ≡ Let z T → draws_below ss c q t ≡ body_draws ss c (second_place q h a) b
  below_Let q t h a b z T e f = ap (draws_below ss c q) (e ∙ ap (λ k. Node k a b) f) ∙ ap (λ k. body_draws ss c (second_place q k a) b) (sym f)

  pub below_If : (q : ℕ) (t : Tree) (h : Head) (a b : Tree) → t ≡ Node h a b → h ≡ If → draws_below ss c q t ≡ if_draws ss c (second_place q h a) b
  below_If q t h a b e f = ap (draws_below ss c q) (e ∙ ap (λ k. Node k a b) f) ∙ ap (λ k. if_draws ss c (second_place q k a) b) (sym f)

  pub below_Find : (q : ℕ) (t : Tree) (h : Head) (a b : Tree) (l : ℕ) → t ≡ Node h a b → h ≡ Find l → draws_below ss c q t ≡ branches_draws ss c (first_place q h) a ++ body_draws ss c (second_place q h a) b
  below_Find q t h a b l e f = ap (draws_below ss c q) (e ∙ ap (λ k. Node k a b) f) ∙ ap (λ k. branches_draws ss c (first_place q k) a ++ body_draws ss c (second_place q k a) b) (sym f)

  pub below_other : (q : ℕ) (t : Tree) (h : Head) (a b : Tree) → t ≡ Node h a b → ((z T : ℕ) → h ≡ New z T → ⊥) → ((z T : ℕ) → h ≡ Let z T → ⊥) → (h ≡ If → ⊥) → ((l : ℕ) → h ≡ Find l → ⊥) → draws_below ss c q t ≡ []
  below_other q t h a b e new let_ if_ find = ap (draws_below ss c q) e ∙ by_head h a b new let_ if_ find where
    by_head : (h : Head) (a b : Tree) → ((z T : ℕ) → h ≡ New z T → ⊥) → ((z T : ℕ) → h ≡ Let z T → ⊥) → (h ≡ If → ⊥) → ((l : ℕ) → h ≡ Find l → ⊥) → draws_below ss c q (Node h a b) ≡ []
    by_head (New z T) a b n l i f = absurd (n z T refl)
    by_head (Let z T) a b n l i f = absurd (l z T refl)
    by_head If a b n l i f = absurd (i refl)
    by_head (Find k) a b n l i f = absurd (f k refl)
    by_head h a b n l i f = refl

  module _ (trees : List KindTree) where
    abbrev at : Subtree → Tree
    at s = tree_at trees s.root

    pub no_branch : (s : Subtree) (item : Parent) → IsNodeAt trees s item → at item.first ≡ Empty → branches_draws ss c s.place (at s) ≡ []
    no_branch s item n e = ap (branches_draws ss c s.place) (n.tree ∙ ap (λ b. Node item.head b (at item.second)) e) ∙ form_1 s.place item.head (at item.second)

    pub no_cells : (s : Subtree) (item branch : Parent) → IsNodeAt trees s item → IsNodeAt trees item.first branch → at branch.second ≡ Empty → branches_draws ss c s.place (at s) ≡ []
    no_cells s item branch n o e =
        ap (branches_draws ss c s.place) (n.tree ∙ ap (λ b. Node item.head b (at item.second)) (o.tree ∙ ap (λ r. Node branch.head (at branch.first) r) e))
        ∙ form_2 s.place item.head branch.head (at branch.first) (at item.second)

    pub no_condition : (s : Subtree) (item branch cells : Parent) → IsNodeAt trees s item → IsNodeAt trees item.first branch → IsNodeAt trees branch.second cells → at cells.second ≡ Empty → branches_draws ss c s.place (at s) ≡ []
    no_condition s item branch cells n o p e =
        ap (branches_draws ss c s.place) (n.tree ∙ ap (λ b. Node item.head b (at item.second)) (o.tree ∙ ap (λ r. Node branch.head (at branch.first) r) (p.tree ∙ ap (λ r. Node cells.head (at cells.first) r) e)))
        ∙ form_3 s.place item.head branch.head cells.head (at branch.first) (at cells.first) (at item.second)

    module _ (s : Subtree) (item branch cells condition : Parent) (n : IsNodeAt trees s item) (o : IsNodeAt trees item.first branch) (p : IsNodeAt trees branch.second cells) (q : IsNodeAt trees cells.second condition) where
      branch_is : at item.first ≡ Node branch.head (at branch.first) (Node cells.head (at cells.first) (Node condition.head (at condition.first) (at condition.second)))
      branch_is = o.tree ∙ ap (λ r. Node branch.head (at branch.first) r) (p.tree ∙ ap (λ r. Node cells.head (at cells.first) r) q.tree)

      list_is : at s ≡ Node item.head (Node branch.head (at branch.first) (Node cells.head (at cells.first) (Node condition.head (at condition.first) (at condition.second)))) (at item.second)
      list_is = n.tree ∙ ap (λ b. Node item.head b (at item.second)) branch_is

      pub no_form : have_form item.head branch.head cells.head condition.head ≡ false → branches_draws ss c s.place (at s) ≡ []
      no_form e = ap (branches_draws ss c s.place) list_is ∙ other_form s.place item.head branch.head cells.head condition.head (at branch.first) (at cells.first) (at condition.first) (at condition.second) (at item.second) e

      body_stands : condition.second.place ≡ body_place s.place item.head branch.head (at branch.first) cells.head (at cells.first) condition.head (at condition.first)
      body_stands =
          q.second_place ∙ ap (λ m. second_place m condition.head (at condition.first)) (p.second_place ∙ ap (λ m. second_place m cells.head (at cells.first)) (o.second_place ∙ ap (λ m. second_place m branch.head (at branch.first)) n.first_place))

      pub one_branch : have_form item.head branch.head cells.head condition.head ≡ true → branches_draws ss c s.place (at s) ≡ draws_at trees ss c condition.second ++ branches_draws ss c item.second.place (at item.second)
      one_branch e =
          ap (branches_draws ss c s.place) list_is
          ∙ (whole_form s.place item.head branch.head cells.head condition.head (at branch.first) (at cells.first) (at condition.first) (at condition.second) (at item.second) e
          ∙ ap₂ ◌++◌ (ap (λ m. body_draws ss c m (at condition.second)) (sym body_stands)) (ap (λ m. branches_draws ss c m (at item.second)) (sym (n.second_place ∙ ap (second_place s.place item.head) branch_is))))

    -- the bodies of an `if`

    pub no_then : (s : Subtree) → at s ≡ Empty → if_draws ss c s.place (at s) ≡ []
    no_then s e = ap (if_draws ss c s.place) e

    pub no_else : (s : Subtree) (then : Parent) → IsNodeAt trees s then → at then.second ≡ Empty → if_draws ss c s.place (at s) ≡ []
    no_else s then n e = ap (if_draws ss c s.place) (n.tree ∙ ap (λ r. Node then.head (at then.first) r) e)

    pub both_bodies : (s : Subtree) (then other : Parent) → IsNodeAt trees s then → IsNodeAt trees then.second other → if_draws ss c s.place (at s) ≡ draws_at trees ss c then.first ++ draws_at trees ss c other.first
    both_bodies s then other n o =
        ap (if_draws ss c s.place) (n.tree ∙ ap (λ r. Node then.head (at then.first) r) o.tree)
        ∙ ap₂ ◌++◌ (ap (λ m. body_draws ss c m (at then.first)) (sym n.first_place)) (ap (λ m. body_draws ss c m (at other.first)) (sym (o.first_place ∙ ap (λ m. first_place m other.head) n.second_place)))
