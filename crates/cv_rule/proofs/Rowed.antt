-- Conditions in their order.
use Rattle.std.proofs.Common.{◌≡◌, ℕ, Bool, true, false, not, if◌then◌else◌, Option, Some, None, refl, sym, ap, ◌∙◌}
use Rattle.std.specs.Prelude.{◌&&◌, option_map}
use Rattle.cv_syntax_trees.specs.declared.sites.sort.Sort.{Sort}
use Rattle.cv_scope_rules.specs.Phrases as grammar
use Rattle.cv_syntax_trees.specs.Tree.{Tree}
use Rattle.cv_scene.specs.lines.Ends.{ends_with}
use Rattle.cv_scene.specs.lines.Targets.{equality, falsity}
use Rattle.cv_scene.specs.Derivations.{first_bad_line}
use Rattle.cv_scene.specs.Pruning.{Part, Pruned, pruned}
use Rattle.cv_scene.specs.Scenes.{Scene, part_at}
use Rattle.cv_scene.specs.Sights.{sight_at}
use Rattle.cv_steps.specs.Changes.{change_at}
use Rattle.cv_steps.specs.Rewriting.{has_sort_of, has_term_at, is_rewritable_at, is_value, sort_at}
use Rattle.cv_steps.specs.Rows.{prune_row, prune_row_by, rewrite_row, unless, unless_at, unless_derived}
use Rattle.cv_steps.specs.Steps.{Leads, Row, Zero}
use Rattle.cv_edit_places.specs.declared.plan.Failure.{Failure}
use Rattle.cv_edit_places.specs.Plans.{failed, failing}

-- rows

pub fails_here : (b : Bool) (rest : Row) (k p : ℕ) (d : Bool) → d ≡ b → d ≡ false → Some (failed k p) ≡ failing (unless b k p rest)
fails_here b rest k p d e f = ap (λ c. failing (unless c k p rest)) (sym f ∙ e)

pub goes_on : (b : Bool) (rest : Row) (k p : ℕ) (d : Bool) (v : Option Failure) → d ≡ b → d ≡ true → v ≡ failing rest → v ≡ failing (unless b k p rest)
goes_on b rest k p d v e f h = h ∙ ap (λ c. failing (unless c k p rest)) (sym f ∙ e)

pub fails_at : (o : Option ℕ) (rest : Row) (k p : ℕ) → Some p ≡ o → Some (failed k p) ≡ failing (unless_at k o rest)
fails_at o rest k p e = ap (λ q. failing (unless_at k q rest)) e

pub goes_past : (o : Option ℕ) (rest : Row) (k : ℕ) (v : Option Failure) → None ≡ o → v ≡ failing rest → v ≡ failing (unless_at k o rest)
goes_past o rest k v e h = h ∙ ap (λ q. failing (unless_at k q rest)) e

-- a step that doesn't stand, and one that does

pub not_there : (b : Bool) (row : Row) (d : Bool) → d ≡ b → d ≡ false → Some (failed 0 0) ≡ (if b then failing row else Some (failed 0 0))
not_there b row d e f = ap (λ c. if c then failing row else Some (failed 0 0)) (sym f ∙ e)

pub there : (b : Bool) (row : Row) (d : Bool) → d ≡ b → d ≡ true → failing row ≡ (if b then failing row else Some (failed 0 0))
there b row d e f = ap (λ c. if c then failing row else Some (failed 0 0)) (sym f ∙ e)

pub denied : (a b : Bool) → a ≡ b → not a ≡ not b
denied a b e = ap not e

-- two conditions, without places

module _ (a b : Bool) (row : Row) (d : Bool) (e : d ≡ a) where
  pub first_fails : d ≡ false → Some (failed 1 0) ≡ failing (unless a 1 0 (unless b 2 0 row))
  first_fails f = fails_here a (unless b 2 0 row) 1 0 d e f

  pub second_fails : d ≡ true → (c : Bool) → c ≡ b → c ≡ false → Some (failed 2 0) ≡ failing (unless a 1 0 (unless b 2 0 row))
  second_fails f c g h = goes_on a (unless b 2 0 row) 1 0 d _ e f (fails_here b row 2 0 c g h)

  pub both_hold : d ≡ true → (c : Bool) → c ≡ b → c ≡ true → (v : Option Failure) → v ≡ failing row → v ≡ failing (unless a 1 0 (unless b 2 0 row))
  both_hold f c g h v k = goes_on a (unless b 2 0 row) 1 0 d v e f (goes_on b row 2 0 c v g h k)

-- the row of `rewrite`, condition by condition

module _ (s : Scene) (p : ℕ) (m by : Tree) where
  abbrev leads : Row
  leads = Leads (change_at s.game p (λ old. m)) Zero

  abbrev from_end : Row
  from_end = unless (ends_with by (equality (part_at s.game p) m)) 4 0 leads

  abbrev from_line : Row
  from_line = unless_at 3 (first_bad_line (sight_at s p) by) from_end

  abbrev fits : Bool
  fits = has_sort_of (sort_at s p (part_at s.game p)) (sort_at s p m)

  abbrev from_sort : Row
  from_sort = unless fits 2 0 from_line

  -- by the term there and its sort, as they were found
  module _ (old : Tree) (o : old ≡ part_at s.game p) (S : Option Sort) (q : S ≡ sort_at s p old) where
    pub rewritable : (a : Bool) → a ≡ (has_term_at grammar.Inputs s.game p && is_value S) → a ≡ is_rewritable_at s p
    rewritable a e = e ∙ ap (λ R. has_term_at grammar.Inputs s.game p && is_value R) (q ∙ ap (sort_at s p) o)

    pub has_sort : (b : Bool) (N : Option Sort) → N ≡ sort_at s p m → b ≡ has_sort_of S N → b ≡ has_sort_of (sort_at s p (part_at s.game p)) (sort_at s p m)
    has_sort b N n e = e ∙ (ap (λ R. has_sort_of R N) (q ∙ ap (sort_at s p) o) ∙ ap (has_sort_of (sort_at s p (part_at s.game p))) n)

    pub is_equality : (c : Bool) → c ≡ ends_with by (equality old m) → c ≡ ends_with by (equality (part_at s.game p) m)
    is_equality c e = e ∙ ap (λ u. ends_with by (equality u m)) o

  module _ (a : Bool) (e : a ≡ is_rewritable_at s p) where
    pub no_place : a ≡ false → Some (failed 1 p) ≡ failing (rewrite_row s p m by)
    no_place f = fails_here (is_rewritable_at s p) from_sort 1 p a e f

    module _ (f : a ≡ true) (b : Bool) (g : b ≡ has_sort_of (sort_at s p (part_at s.game p)) (sort_at s p m)) where
      pub no_sort : b ≡ false → Some (failed 2 0) ≡ failing (rewrite_row s p m by)
      no_sort h = goes_on (is_rewritable_at s p) from_sort 1 p a _ e f (fails_here fits from_line 2 0 b g h)

      module _ (h : b ≡ true) where
        in_row : (v : Option Failure) → v ≡ failing from_line → v ≡ failing (rewrite_row s p m by)
        in_row v k = goes_on (is_rewritable_at s p) from_sort 1 p a v e f (goes_on fits from_line 2 0 b v g h k)

        pub no_line : (line : ℕ) → Some line ≡ first_bad_line (sight_at s p) by → Some (failed 3 line) ≡ failing (rewrite_row s p m by)
        no_line line k = in_row _ (fails_at (first_bad_line (sight_at s p) by) from_end 3 line k)

        module _ (k : None ≡ first_bad_line (sight_at s p) by) (c : Bool) (i : c ≡ ends_with by (equality (part_at s.game p) m)) where
          pub no_end : c ≡ false → Some (failed 4 0) ≡ failing (rewrite_row s p m by)
          no_end j = in_row _ (goes_past (first_bad_line (sight_at s p) by) from_end 3 _ k (fails_here (ends_with by (equality (part_at s.game p) m)) leads 4 0 c i j))

          pub rewrite_holds : c ≡ true → None ≡ failing (rewrite_row s p m by)
          rewrite_holds j = in_row _ (goes_past (first_bad_line (sight_at s p) by) from_end 3 _ k (goes_on (ends_with by (equality (part_at s.game p) m)) leads 4 0 c None i j refl))

-- the row of `prune`

module _ (s : Scene) (p : ℕ) (part : Part) (by : Tree) where
  abbrev body_in : Option ℕ
  body_in = option_map (λ b. b.body) (pruned p (part_at s.game p) part)

  no_body_by : (o : Option Pruned) → None ≡ option_map (λ b. b.body) o → Some (failed 1 0) ≡ failing (prune_row_by s p by o)
  no_body_by None e = refl
  no_body_by (Some b) e = absurd (cc)

  pub no_body : None ≡ body_in → Some (failed 1 0) ≡ failing (prune_row s p part by)
  no_body e = no_body_by (pruned p (part_at s.game p) part) e

  module _ (at : ℕ) where
    -- where there is a body, at this place, the row is that of its derivation
    abbrev rest : Pruned → Row
    rest b = Leads (change_at s.game p (λ old. b.left)) Zero

    by_body : (o : Option Pruned) → Some at ≡ option_map (λ b. b.body) o → (v : Option Failure)
        → ((b : Pruned) → v ≡ failing (unless_derived s at by falsity 2 3 (rest b))) → v ≡ failing (prune_row_by s p by o)
    by_body None e v f = absurd (cc)
    by_body (Some b) e v f = f b ∙ ap (λ q. failing (unless_derived s q by falsity 2 3 (rest b))) (let g : at ≡ b.body = cc in g)

    module _ (e : Some at ≡ body_in) where
      with_body : (v : Option Failure) → ((b : Pruned) → v ≡ failing (unless_derived s at by falsity 2 3 (rest b))) → v ≡ failing (prune_row s p part by)
      with_body v f = by_body (pruned p (part_at s.game p) part) e v f

      pub no_pruning_line : (line : ℕ) → Some line ≡ first_bad_line (sight_at s at) by → Some (failed 2 line) ≡ failing (prune_row s p part by)
      no_pruning_line line k = with_body _ (λ b. fails_at (first_bad_line (sight_at s at) by) (unless (ends_with by falsity) 3 0 (rest b)) 2 line k)

      module _ (k : None ≡ first_bad_line (sight_at s at) by) (c : Bool) (i : c ≡ ends_with by falsity) where
        pub no_falsity : c ≡ false → Some (failed 3 0) ≡ failing (prune_row s p part by)
        no_falsity j = with_body _ (λ b. goes_past (first_bad_line (sight_at s at) by) (unless (ends_with by falsity) 3 0 (rest b)) 2 _ k (fails_here (ends_with by falsity) (rest b) 3 0 c i j))

        pub prune_holds : c ≡ true → None ≡ failing (prune_row s p part by)
        prune_holds j = with_body _ (λ b. goes_past (first_bad_line (sight_at s at) by) (unless (ends_with by falsity) 3 0 (rest b)) 2 _ k (goes_on (ends_with by falsity) (rest b) 3 0 c None i j refl))
