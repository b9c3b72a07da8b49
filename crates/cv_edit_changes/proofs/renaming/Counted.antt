-- How many nodes of a tree have a name, or a node below that has it.
use Rattle.std.proofs.Common.{◌≡◌, ℕ, ◌+◌, ◌<◌, ◌≤◌, Bool, true, false, arith, refl, sym, ap, ◌∙◌}
use Rattle.std.specs.Prelude.{◌||◌, if◌then◌else◌}
use Rattle.cv_syntax_trees.specs.declared.head.Head.{Head}
use Rattle.cv_syntax_trees.specs.Tree.{Tree, Empty, Node}
use Rattle.cv_scene.specs.Scenes.{head_names, names}
use Rattle.cv_syntax.specs.listing.Needs.{most_asked}
use Rattle.cv_edit_changes.specs.renaming.Needs.{need_renaming, nodes_renaming}
use Rattle.std.proofs.lemmas.Bool.{or_parts}

module _ (x : ℕ) where
  -- nothing is new where nothing has the name

  unnamed : (t : Tree) → names x t ≡ false → nodes_renaming x t ≡ 0
  unfolding nodes_renaming
  unnamed Empty e = refl
  unnamed (Node h a b) e = ap (λ v. if v then nodes_renaming x a + nodes_renaming x b + 1 else 0) e

  module _ (t : Tree) (h : Head) (a b : Tree) (is : t ≡ Node h a b) where
    parts : names x t ≡ (head_names x h || (names x a || names x b))
    unfolding names
    parts = ap (names x) is

    named : names x t ≡ true → nodes_renaming x t ≡ nodes_renaming x a + nodes_renaming x b + 1
    unfolding nodes_renaming
    named e = ap (nodes_renaming x) is ∙ ap (λ v. if v then nodes_renaming x a + nodes_renaming x b + 1 else 0) (ap (names x) (sym is) ∙ e)

    pub none_named : names x t ≡ false → (head_names x h ≡ false) × ((names x a ≡ false) × (names x b ≡ false))
    none_named e =
        let p = or_parts (head_names x h) (names x a || names x b) (sym parts ∙ e) in
        (p.0, or_parts (names x a) (names x b) p.1)

    -- what the children need, and the node itself
    pub needs : (cost : ℕ) → cost ≤ 1 → (names x t ≡ false → cost ≡ 0) → nodes_renaming x a + nodes_renaming x b + cost ≤ nodes_renaming x t
    needs cost l f = go (names x t) refl
      where
        go : (v : Bool) → names x t ≡ v → nodes_renaming x a + nodes_renaming x b + cost ≤ nodes_renaming x t
        go true e = omega (arith, l, named e)
        go false e = let p = none_named e in omega (arith, f e, unnamed a p.1.0, unnamed b p.1.1, unnamed t e)

  some_named : (t : Tree) → names x t ≡ true → 0 < nodes_renaming x t
  unfolding names
  some_named Empty e = absurd (cc)
  some_named (Node h a b) e = omega (arith, named (Node h a b) h a b refl e)

  -- a chain in passing: what is still to be counted, with the nodes since the last one that was

  abbrev pub pending : ℕ → Tree → ℕ
  pending passed t = if names x t then passed + nodes_renaming x t else 0

  with_name : (passed : ℕ) (t : Tree) → names x t ≡ true → pending passed t ≡ passed + nodes_renaming x t
  with_name passed t e = ap (λ v. if v then passed + nodes_renaming x t else 0) e

  without_name : (passed : ℕ) (t : Tree) → names x t ≡ false → pending passed t ≡ 0
  without_name passed t e = ap (λ v. if v then passed + nodes_renaming x t else 0) e

  pub pending_all : (t : Tree) → pending 0 t ≡ nodes_renaming x t
  pending_all t = go (names x t) refl
    where
      go : (v : Bool) → names x t ≡ v → pending 0 t ≡ nodes_renaming x t
      go true e = omega (arith, with_name 0 t e)
      go false e = omega (arith, without_name 0 t e, unnamed t e)

  pub pending_none : (passed : ℕ) (t : Tree) → t ≡ Empty → pending passed t ≡ 0
  unfolding names
  pending_none passed t e = without_name passed t (ap (names x) e)

  module _ (t : Tree) (h : Head) (a b : Tree) (is : t ≡ Node h a b) (total passed below need : ℕ) (i : below ≡ need_renaming x a) (rest : most_asked (total + pending passed t) ≡ need) where
    name_below : 0 < below → names x t ≡ true
    name_below l = go (names x t) refl
      where
        go : (v : Bool) → names x t ≡ v → names x t ≡ true
        go true e = e
        go false e = absurd (omega (arith, l, i, unnamed a (none_named t h a b is e).1.0))

    name_here : head_names x h ≡ true → names x t ≡ true
    name_here e = parts t h a b is ∙ ap (λ v. v || (names x a || names x b)) e

    -- the node has the name, or one in its first child
    counted : names x t ≡ true → (more now : ℕ) → now ≡ most_asked (passed + 1) → more ≡ most_asked (most_asked (total + now) + below) → most_asked (more + pending 0 b) ≡ need
    counted e more now f g = omega (arith, rest, i, f, g, with_name passed t e, named t h a b is e, pending_all b)

    pub counted_below : 0 < below → (more now : ℕ) → now ≡ most_asked (passed + 1) → more ≡ most_asked (most_asked (total + now) + below) → most_asked (more + pending 0 b) ≡ need
    counted_below l = counted (name_below l)

    pub counted_here : head_names x h ≡ true → (more now : ℕ) → now ≡ most_asked (passed + 1) → more ≡ most_asked (most_asked (total + now) + below) → most_asked (more + pending 0 b) ≡ need
    counted_here e = counted (name_here e)

    -- or_parts has
    pub passed_by : below ≡ 0 → head_names x h ≡ false → (now : ℕ) → now ≡ most_asked (passed + 1) → most_asked (total + pending now b) ≡ need
    passed_by z e now f = go (names x a) refl
      where
        on : names x a ≡ false → names x t ≡ names x b
        on n = parts t h a b is ∙ (ap (λ v. v || (names x a || names x b)) e ∙ ap (λ v. v || names x b) n)

        last : (v : Bool) → names x b ≡ v → names x a ≡ false → most_asked (total + pending now b) ≡ need
        last true m n = omega (arith, rest, f, with_name passed t (on n ∙ m), with_name now b m, named t h a b is (on n ∙ m), unnamed a n)
        last false m n = omega (arith, rest, without_name passed t (on n ∙ m), without_name now b m)

        go : (v : Bool) → names x a ≡ v → most_asked (total + pending now b) ≡ need
        go true n = absurd (omega (arith, z, i, some_named a n))
        go false n = last (names x b) refl n
