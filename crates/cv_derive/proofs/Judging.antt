-- The first line that isn't right, line by line; and what the checker answers.
use Rattle.std.proofs.Common.{◌≡◌, ℕ, ◌+◌, ◌≤◌, Bool, true, false, List, length, arith, Option, Some, None, refl, sym, ap, ap₂, subst, ◌∙◌}
use Rattle.std.specs.Prelude.{◌↔◌, IsOk, Result, Ok, Err}
use Rattle.std.proofs.lemmas.Bool.{both_ways}
use Rattle.cv_syntax_trees.specs.declared.head.Head.TheVariants.{Not}
use Rattle.cv_pool.specs.declared.node.NodeId.{NodeId}
use Rattle.cv_pool.specs.KindTree.{KindTree}
use Rattle.cv_syntax.specs.declared.open.Opened.{Opened}
use Rattle.cv_syntax_trees.specs.Tree.{Tree, Empty, Node}
use Rattle.cv_syntax.specs.PoolTrees.{tree_at}
use Rattle.cv_syntax_trees.specs.sites.Sites.{first_of}
use Rattle.cv_scene.specs.Derivations.{Derives, first_bad_line, is_right_split, unless}
use Rattle.cv_scene.specs.Reasons.{is_right}
use Rattle.cv_scene.specs.Sights.{Sight}
use Rattle.cv_scene.specs.lines.Ends.{ends_with}
use Rattle.cv_scene.specs.lines.Lines.{Lines, End, By, Cases, Statement, count, lines_of, statements}
use Rattle.cv_derive_lines.specs.declared.lines.Claim.{Claim}
use Rattle.cv_derive_lines.specs.declared.lines.Line.{Line}
use Rattle.cv_derive_lines.specs.declared.lines.Line.TheVariants as line
use Rattle.cv_derive_lines.specs.Views.{front, in_front, statement_of}
use Rattle.cv_derive_lines.proofs.Fronts.{line_at, no_lines}
use Rattle.cv_derive_lines.specs.citing.Citing.{cited_from}
use Rattle.cv_derive.specs.Searching.{first_bad_in}
use Rattle.cv_derive.specs.Verdicts.{verdict_by, verdict_of}
use Rattle.cv_derive.specs.declared.checking.DeriveFault.{DeriveFault}
use Rattle.cv_derive.specs.declared.checking.DeriveFault.TheVariants.{LineBad, Targets}

module _ (all : Lines) (s : Sight) (g : Tree) (n : ℕ) where
  pub bad_none : (t : Tree) → t ≡ Empty → None ≡ first_bad_in all s g n (lines_of t)
  unfolding first_bad_in
  bad_none t e = sym (ap (first_bad_in all s g n) (no_lines t e))

  module _ (t : Statement) (r : Tree) (rest : Lines) (b : Bool) (i : b ≡ is_right s g (cited_from all 1 n) t r) where
    by_form : first_bad_in all s g n (By t r rest) ≡ first_of (unless b n) (first_bad_in all s g (n + 1) rest)
    unfolding first_bad_in
    by_form = ap (λ c. first_of (unless c n) (first_bad_in all s g (n + 1) rest)) (sym i)

    pub by_bad : b ≡ false → Some n ≡ first_bad_in all s g n (By t r rest)
    by_bad e = sym (by_form ∙ ap (λ c. first_of (unless c n) (first_bad_in all s g (n + 1) rest)) e)

    pub by_good : b ≡ true → first_bad_in all s g (n + 1) rest ≡ first_bad_in all s g n (By t r rest)
    by_good e = sym (by_form ∙ ap (λ c. first_of (unless c n) (first_bad_in all s g (n + 1) rest)) e)

  module _ (c : Tree) (d e : Lines) (t : Tree) (rest : Lines) (o : Option ℕ) (i : o ≡ first_bad_in all s c n d) where
    abbrev behind : ℕ → Option ℕ → Bool → ℕ → Option ℕ
    behind middle p b end = first_of p (first_of (unless b end) (first_bad_in all s g (end + 1) rest))

    cases_form : first_bad_in all s g n (Cases c d e t rest) ≡ first_of o (behind (n + count d) (first_bad_in all s (Node Not c Empty) (n + count d) e) (is_right_split s c d e t) (n + count d + count e))
    unfolding first_bad_in
    cases_form = ap (λ q. first_of q (behind (n + count d) (first_bad_in all s (Node Not c Empty) (n + count d) e) (is_right_split s c d e t) (n + count d + count e))) (sym i)

    pub first_block : (m : ℕ) → o ≡ Some m → Some m ≡ first_bad_in all s g n (Cases c d e t rest)
    first_block m f = sym (cases_form ∙ ap (λ q. first_of q (behind (n + count d) (first_bad_in all s (Node Not c Empty) (n + count d) e) (is_right_split s c d e t) (n + count d + count e))) f)

    module _ (f : o ≡ None) (middle : ℕ) (k : middle ≡ n + count d) (p : Option ℕ) (j : p ≡ first_bad_in all s (Node Not c Empty) middle e) where
      second_form : first_bad_in all s g n (Cases c d e t rest) ≡ behind middle p (is_right_split s c d e t) (middle + count e)
      second_form =
          cases_form ∙ (ap (λ q. first_of q (behind (n + count d) (first_bad_in all s (Node Not c Empty) (n + count d) e) (is_right_split s c d e t) (n + count d + count e))) f
          ∙ (ap (λ m. behind m (first_bad_in all s (Node Not c Empty) m e) (is_right_split s c d e t) (m + count e)) (sym k)
          ∙ ap (λ q. behind middle q (is_right_split s c d e t) (middle + count e)) (sym j)))

      pub second_block : (m : ℕ) → p ≡ Some m → Some m ≡ first_bad_in all s g n (Cases c d e t rest)
      second_block m h = sym (second_form ∙ ap (λ q. behind middle q (is_right_split s c d e t) (middle + count e)) h)

      module _ (h : p ≡ None) (end : ℕ) (l : end ≡ middle + count e) (b : Bool) (v : b ≡ is_right_split s c d e t) where
        split_form : first_bad_in all s g n (Cases c d e t rest) ≡ first_of (unless b end) (first_bad_in all s g (end + 1) rest)
        split_form =
            second_form ∙ (ap (λ q. behind middle q (is_right_split s c d e t) (middle + count e)) h
            ∙ ap₂ (λ x y. first_of (unless x y) (first_bad_in all s g (y + 1) rest)) (sym v) (sym l))

        pub split_bad : b ≡ false → Some end ≡ first_bad_in all s g n (Cases c d e t rest)
        split_bad w = sym (split_form ∙ ap (λ x. first_of (unless x end) (first_bad_in all s g (end + 1) rest)) w)

        pub split_good : b ≡ true → first_bad_in all s g (end + 1) rest ≡ first_bad_in all s g n (Cases c d e t rest)
        split_good w = sym (split_form ∙ ap (λ x. first_of (unless x end) (first_bad_in all s g (end + 1) rest)) w)

-- the line of an item

module _ (all : Lines) (s : Sight) (g : Tree) (n : ℕ) (trees : List KindTree) (at : Option NodeId) (k : NodeId) (o : Opened) (L : Line) (e : at ≡ Some k) (f : tree_at trees (Some k) ≡ Node o.head (tree_at trees o.first) (tree_at trees o.second)) (l : (rest : Lines) → in_front trees L rest ≡ front (tree_at trees o.first) rest) where
  opened : first_bad_in all s g n (lines_of (tree_at trees at)) ≡ first_bad_in all s g n (in_front trees L (lines_of (tree_at trees o.second)))
  opened = ap (first_bad_in all s g n) (line_at trees at k o L e f l)

  pub by_at : (t : Claim) (r : Option NodeId) → L ≡ line.By t r → first_bad_in all s g n (By (statement_of trees t) (tree_at trees r) (lines_of (tree_at trees o.second))) ≡ first_bad_in all s g n (lines_of (tree_at trees at))
  by_at t r i = sym (opened ∙ ap (λ K. first_bad_in all s g n (in_front trees K (lines_of (tree_at trees o.second)))) i)

  pub cases_at : (c d b u : Option NodeId) → L ≡ line.Cases c d b u → first_bad_in all s g n (Cases (tree_at trees c) (lines_of (tree_at trees d)) (lines_of (tree_at trees b)) (tree_at trees u) (lines_of (tree_at trees o.second))) ≡ first_bad_in all s g n (lines_of (tree_at trees at))
  cases_at c d b u i = sym (opened ∙ ap (λ K. first_bad_in all s g n (in_front trees K (lines_of (tree_at trees o.second)))) i)

-- no more lines stand outside blocks than there are
pub few_statements : (ls : Lines) → length (statements ls) ≤ count ls
unfolding statements count
few_statements End = omega arith
few_statements (By t r rest) = let l = few_statements rest in omega (arith, l)
few_statements (Cases c d e t rest) = let l = few_statements rest in omega (arith, l)

-- verdicts

module _ (s : Sight) (by targets : Tree) (o : Option ℕ) (i : o ≡ first_bad_line s by) where
  pub verdict_line : (n : ℕ) → o ≡ Some n → Err (LineBad n) ≡ verdict_of s by targets
  verdict_line n e = ap (λ p. verdict_by p (ends_with by targets)) (sym e ∙ i)

  module _ (e : o ≡ None) (b : Bool) (j : b ≡ ends_with by targets) where
    pub verdict_targets : b ≡ false → Err Targets ≡ verdict_of s by targets
    verdict_targets f = ap₂ verdict_by (sym e ∙ i) (sym f ∙ j)

    pub verdict_right : b ≡ true → Ok tt ≡ verdict_of s by targets
    verdict_right f = ap₂ verdict_by (sym e ∙ i) (sym f ∙ j)

-- what they say of lines and of targets

no_some : {A : Type 0} (a : A) → Some a ≡ None → ⊥
no_some a x = cc

module _ (s : Sight) (by targets : Tree) (r : Result (Unit {0}) DeriveFault) (v : r ≡ verdict_of s by targets) where
  says : (P : Result (Unit {0}) DeriveFault → Type 0) (Q : Type 0) → ((o : Option ℕ) → first_bad_line s by ≡ o → (b : Bool) → ends_with by targets ≡ b → P (verdict_by o b) ↔ Q) → P r ↔ Q
  says P Q go = subst (λ x. P x ↔ Q) (sym v) (go (first_bad_line s by) refl (ends_with by targets) refl)

  pub says_right : IsOk r ↔ Derives s by targets
  says_right = says (λ x. IsOk x) (Derives s by targets) go
    where
      go : (o : Option ℕ) → first_bad_line s by ≡ o → (b : Bool) → ends_with by targets ≡ b → IsOk (verdict_by o b) ↔ Derives s by targets
      go (Some n) e b f = ((λ k. absurd (both_ways _ refl k)), (λ d. absurd (no_some n (sym e ∙ d.right))))
      go None e false f = ((λ k. absurd (both_ways _ refl k)), (λ d. absurd (both_ways _ f d.end)))
      go None e true f = ((λ k. record { right = e; end = f }), (λ d. refl))

  pub says_line : (n : ℕ) → (r ≡ Err (LineBad n)) ↔ (first_bad_line s by ≡ Some n)
  says_line n = says (λ x. x ≡ Err (LineBad n)) (first_bad_line s by ≡ Some n) go
    where
      go : (o : Option ℕ) → first_bad_line s by ≡ o → (b : Bool) → ends_with by targets ≡ b → (verdict_by o b ≡ Err (LineBad n)) ↔ (first_bad_line s by ≡ Some n)
      go (Some m) e b f = ((λ k. e ∙ (let z : m ≡ n = cc in ap Some z)), (λ k. let z : Some m ≡ Some n = sym e ∙ k in let y : m ≡ n = cc in ap (λ i. Err (LineBad i)) y))
      go None e false f = ((λ k. absurd (cc)), (λ k. absurd (no_some n (sym k ∙ e))))
      go None e true f = ((λ k. absurd (cc)), (λ k. absurd (no_some n (sym k ∙ e))))

  pub says_targets : (r ≡ Err Targets) ↔ ((first_bad_line s by ≡ None) × (ends_with by targets ≡ false))
  says_targets = says (λ x. x ≡ Err Targets) ((first_bad_line s by ≡ None) × (ends_with by targets ≡ false)) go
    where
      go : (o : Option ℕ) → first_bad_line s by ≡ o → (b : Bool) → ends_with by targets ≡ b → (verdict_by o b ≡ Err Targets) ↔ ((first_bad_line s by ≡ None) × (ends_with by targets ≡ false))
      go (Some m) e b f = ((λ k. absurd (cc)), (λ k. absurd (no_some m (sym e ∙ k.0))))
      go None e false f = ((λ k. (e, f)), (λ k. refl))
      go None e true f = ((λ k. absurd (cc)), (λ k. absurd (both_ways _ k.1 f)))
