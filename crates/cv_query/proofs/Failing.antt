-- The first condition that fails, place by place.
use Rattle.std.proofs.Common.{◌≡◌, ℕ, ◌+◌, ◌<◌, ◌≤◌, Bool, true, false, List, drop, get_or, length, Option, Some, None, refl, sym, ap, ap₂, ◌∙◌}
use Rattle.std.specs.List.{list_all}
use Rattle.std.proofs.lemmas.List.{drop_all, drop_more}
use Rattle.cv_syntax_trees.specs.lists.Options.{first_of}
use Rattle.cv_syntax_trees.specs.declared.head.Head.{Head}
use Rattle.cv_syntax_trees.specs.declared.head.Head.TheVariants.{EventsCertificate}
use Rattle.cv_syntax_trees.specs.Tree.{Tree, Empty, Node, first, second}
use Rattle.cv_syntax.proofs.Trees.{tree_of_NoTree}
use Rattle.cv_meaning.specs.Correspondences.{Correspondence, alternatives_of, correspondence_of, event_of, is_once, leaf_names, on_the_right_alone}
use Rattle.cv_scene.specs.Derivations.{unless}
use Rattle.cv_scene.specs.Scenes.{Scene}
use Rattle.cv_query_certificates.specs.Claims.{Claim, entry_claims}
use Rattle.cv_query_certificates.specs.Failures.{Failure, certificate_failure, failure, first_failing, first_unformed, least_place}
use Rattle.cv_query_certificates.specs.Forms.{has_form, left_places}
use Rattle.cv_syntax_trees.proofs.lists.Options.{some_none}

parts_none : (x y : Option ℕ) → first_of x y ≡ None → (x ≡ None) × (y ≡ None)
parts_none None y e = (refl, e)
parts_none (Some a) y e = absurd (some_none a e)

unless_true : (b : Bool) (p : ℕ) → unless b p ≡ None → b ≡ true
unless_true true p e = refl
unless_true false p e = absurd (some_none p e)

module _ (s : Scene) (q : Correspondence) (ps : List ℕ) (k : ℕ) where
  module _ (l : k < length ps) where
    pub no_part : (test : Scene → (place : ℕ) → Claim → Bool) (t : Tree) → t ≡ Empty → None ≡ first_failing test s q (drop k ps) t
    no_part test t e = sym (ap₂ (first_failing test s q) (drop_more ps k 0 l) e)

    module _ (t : Tree) (h : Head) (part more : Tree) (e : t ≡ Node h part more) where
      module _ (test : Scene → (place : ℕ) → Claim → Bool) (b : Bool) (i : b ≡ list_all (test s (get_or ps k 0)) (entry_claims s q (get_or ps k 0) part)) where
        one_part : first_failing test s q (drop k ps) t ≡ first_of (unless b (get_or ps k 0)) (first_failing test s q (drop (k + 1) ps) more)
        one_part = ap₂ (first_failing test s q) (drop_more ps k 0 l) e ∙ ap (λ d. first_of (unless d (get_or ps k 0)) (first_failing test s q (drop (k + 1) ps) more)) (sym i)

        pub part_fails : b ≡ false → Some (get_or ps k 0) ≡ first_failing test s q (drop k ps) t
        part_fails j = sym (one_part ∙ ap (λ d. first_of (unless d (get_or ps k 0)) (first_failing test s q (drop (k + 1) ps) more)) j)

        pub part_passes : b ≡ true → first_failing test s q (drop (k + 1) ps) more ≡ first_failing test s q (drop k ps) t
        part_passes j = sym (one_part ∙ ap (λ d. first_of (unless d (get_or ps k 0)) (first_failing test s q (drop (k + 1) ps) more)) j)

      module _ (f : first_unformed s q (drop k ps) t ≡ None) where
        both_formed : (unless (has_form s q (get_or ps k 0) part) (get_or ps k 0) ≡ None) × (first_unformed s q (drop (k + 1) ps) more ≡ None)
        both_formed = parts_none _ _ (sym (ap₂ (first_unformed s q) (drop_more ps k 0 l) e) ∙ f)

        pub formed_here : has_form s q (get_or ps k 0) part ≡ true
        formed_here = unless_true _ (get_or ps k 0) both_formed.0

        pub formed_behind : first_unformed s q (drop (k + 1) ps) more ≡ None
        formed_behind = both_formed.1

  pub all_passed : (test : Scene → (place : ℕ) → Claim → Bool) (t : Tree) → length ps ≤ k → None ≡ first_failing test s q (drop k ps) t
  all_passed test t l = sym (ap (λ us. first_failing test s q us t) (drop_all k ps l))

-- the first of three conditions, or what fails behind them

abbrev failed : ℕ → ℕ → Option Failure
failed n p = Some (record { condition = n; place = p })

abbrev four : (a b c : Option ℕ) → (d : Option Failure) → Option Failure
four a b c d = first_of (failure 2 a) (first_of (failure 3 b) (first_of (failure 4 c) d))

module _ (a b c : Option ℕ) (d : Option Failure) where
  pub form_fails : (p : ℕ) → Some p ≡ a → failed 2 p ≡ four a b c d
  form_fails p e = ap (λ o. four o b c d) e

  module _ (e : None ≡ a) where
    pub line_fails : (p : ℕ) → Some p ≡ b → failed 3 p ≡ four a b c d
    line_fails p f = ap₂ (λ o u. four o u c d) e f

    module _ (f : None ≡ b) where
      pub end_fails : (p : ℕ) → Some p ≡ c → failed 4 p ≡ four a b c d
      end_fails p g = ap (λ o. four None None o d) g ∙ ap₂ (λ o u. four o u c d) e f

      pub rest_fails : None ≡ c → (x : Option Failure) → x ≡ d → x ≡ four a b c d
      rest_fails g x i = i ∙ (ap (λ o. four None None o d) g ∙ ap₂ (λ o u. four o u c d) e f)

-- a certificate that is none of a correspondence

module _ (s : Scene) (q : Correspondence) where
  pub no_certificate : (t : Tree) → t ≡ Empty → failed 2 (least_place (left_places s q)) ≡ certificate_failure s q t
  no_certificate t e = sym (ap (certificate_failure s q) e)

  pub other_certificate : (t : Tree) (h : Head) (a b : Tree) → t ≡ Node h a b → (h ≡ EventsCertificate → ⊥) → failed 2 (least_place (left_places s q)) ≡ certificate_failure s q t
  other_certificate t h a b e n = go h n ∙ sym (ap (certificate_failure s q) e)
    where
      go : (h : Head) → (h ≡ EventsCertificate → ⊥) → failed 2 (least_place (left_places s q)) ≡ certificate_failure s q (Node h a b)
      go EventsCertificate n = absurd (n refl)
      go h n = refl

-- a correspondence by its parts

pub of_parts : (s : Scene) (h : Head) (bs sides c : Tree) (q : Correspondence) → q.inj ≡ is_once (first sides) → q.event ≡ event_of (first sides) → q.variables ≡ leaf_names (first (first sides))
    → q.others ≡ on_the_right_alone bs (leaf_names (first (first sides))) (second sides) → q.alternatives ≡ alternatives_of (second sides)
    → certificate_failure s q c ≡ certificate_failure s (correspondence_of (Node h bs sides)) c
of_parts s h bs sides c q i k l m n = ap (λ r. certificate_failure s r c) same
  where
    same : q ≡ correspondence_of (Node h bs sides)
    same = λ j. record { inj = i j; event = k j; variables = l j; others = m j; alternatives = n j }

pub ruleset failing = (tree_of_NoTree, form_fails, line_fails, end_fails, rest_fails, no_certificate, other_certificate, of_parts)
