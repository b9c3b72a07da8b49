-- The first refusal is the first of those that the key and the sites give.
use Rattle.std.proofs.Common.{◌≡◌, ℕ, Bool, true, false, List, Option, Some, None, Result, Ok, Err, refl, ap, ap₂, subst, sym, ◌∙◌}
use Rattle.std.specs.Prelude.{IfErr, IsErrAnd, if◌then◌else◌}
use Rattle.cv_syntax_trees.specs.sites.Sites.{first_of}
use Rattle.cv_scope_rules.specs.declared.position.Position.TheVariants.{Anywhere}
use Rattle.cv_scene.specs.Instances.{Matching}
use Rattle.cv_scene.specs.Refusals.{Refusal, CoinUse, InCondition, KeyInArgument, NotOneSite, Use, at_place, first_argument_use, first_coin_use, first_in_condition, first_refusal, first_use, has_key}
use Rattle.cv_scene.specs.Sites.{Site, sites_of}
use Rattle.cv_match.specs.reads.Within.{use_within}
use Rattle.cv_match.specs.instances.Walks.{use_unless}
use Rattle.cv_match.specs.declared.fault.MatchFault.{MatchFault}
use Rattle.cv_match.specs.declared.fault.MatchFault.TheVariants as fault
use Rattle.cv_match.specs.Matched.{IsFault, key_refusal, site_refusal}

abbrev by_key : Bool → Option ℕ → Option ℕ → Option Refusal
by_key k a b = if k then first_of (at_place Use a) (at_place InCondition b) else Some NotOneSite

key_parts : (M : Matching) (k : Bool) (a b : Option ℕ) → k ≡ has_key M → use_unless false M Anywhere 0 M.scene.game ≡ a → use_within false M.key Anywhere 0 M.scene.game ≡ b → key_refusal M ≡ by_key k a b
unfolding key_refusal use_unless use_within
key_parts M k a b e f g = ap₂ (λ l d. by_key l d (first_in_condition M.key Anywhere 0 M.scene.game)) (sym e) f ∙ ap (by_key k a) g

module _ (M : Matching) (k : Bool) (e : k ≡ has_key M) where
  pub keyless : k ≡ false → key_refusal M ≡ Some NotOneSite
  keyless n = key_parts M k _ _ e refl refl ∙ ap (λ l. by_key l (use_unless false M Anywhere 0 M.scene.game) (use_within false M.key Anywhere 0 M.scene.game)) n

  module _ (n : k ≡ true) where
    pub used : (p : ℕ) → use_unless false M Anywhere 0 M.scene.game ≡ Some p → key_refusal M ≡ Some (Use p)
    used p f = key_parts M k (Some p) _ e f refl ∙ ap (λ l. by_key l (Some p) (use_within false M.key Anywhere 0 M.scene.game)) n

    pub used_within : (p : ℕ) → use_unless false M Anywhere 0 M.scene.game ≡ None → use_within false M.key Anywhere 0 M.scene.game ≡ Some p → key_refusal M ≡ Some (InCondition p)
    used_within p f g = key_parts M k None (Some p) e f g ∙ ap (λ l. by_key l None (Some p)) n

    pub unused : use_unless false M Anywhere 0 M.scene.game ≡ None → use_within false M.key Anywhere 0 M.scene.game ≡ None → key_refusal M ≡ None
    unused f g = key_parts M k None None e f g ∙ ap (λ l. by_key l None None) n

site_parts : (M : Matching) (ss : List Site) (a b : Option ℕ) → a ≡ first_coin_use M ss → b ≡ first_argument_use M ss → site_refusal M ss ≡ first_of (at_place CoinUse a) (at_place KeyInArgument b)
unfolding site_refusal
site_parts M ss a b e f = ap₂ (λ c d. first_of (at_place CoinUse c) (at_place KeyInArgument d)) (sym e) (sym f)

module _ (M : Matching) (ss : List Site) (a : Option ℕ) (e : a ≡ first_coin_use M ss) where
  pub coin_used : (p : ℕ) → a ≡ Some p → site_refusal M ss ≡ Some (CoinUse p)
  coin_used p i = site_parts M ss a _ e refl ∙ ap (λ c. first_of (at_place CoinUse c) (at_place KeyInArgument (first_argument_use M ss))) i

  module _ (b : Option ℕ) (f : b ≡ first_argument_use M ss) (i : a ≡ None) where
    pub argument_used : (p : ℕ) → b ≡ Some p → site_refusal M ss ≡ Some (KeyInArgument p)
    argument_used p j = site_parts M ss a b e f ∙ ap₂ (λ c d. first_of (at_place CoinUse c) (at_place KeyInArgument d)) i j

    pub all_serve : b ≡ None → site_refusal M ss ≡ None
    all_serve j = site_parts M ss a b e f ∙ ap₂ (λ c d. first_of (at_place CoinUse c) (at_place KeyInArgument d)) i j

all_parts : (M : Matching) → first_refusal M ≡ first_of (key_refusal M) (site_refusal M (sites_of M))
unfolding key_refusal site_refusal
all_parts M = by_tests (has_key M) (first_use M Anywhere 0 M.scene.game) (first_in_condition M.key Anywhere 0 M.scene.game) (first_of (at_place CoinUse (first_coin_use M (sites_of M))) (at_place KeyInArgument (first_argument_use M (sites_of M))))
  where
    by_tests : (k : Bool) (a b : Option ℕ) (r : Option Refusal) → (if k then first_of (at_place Use a) (first_of (at_place InCondition b) r) else Some NotOneSite) ≡ first_of (by_key k a b) r
    by_tests false a b r = refl
    by_tests true (Some p) b r = refl
    by_tests true None (Some p) r = refl
    by_tests true None None r = refl

-- a refusal of the key is the first; one of the sites is the first where the key has none

fault_first : (r s : Option Refusal) (e : MatchFault) → IsFault r e → IsFault (first_of r s) e
fault_first r s fault.NotOneSite i = ap (λ q. first_of q s) i
fault_first r s (fault.Use p) i = ap (λ q. first_of q s) i
fault_first r s (fault.InCondition p) i = ap (λ q. first_of q s) i
fault_first r s (fault.CoinUse p) i = ap (λ q. first_of q s) i
fault_first r s (fault.KeyInArgument p) i = ap (λ q. first_of q s) i
fault_first r s fault.OutOfMemory i = tt

fault_moved : (r s : Option Refusal) (e : MatchFault) → r ≡ s → IsFault s e → IsFault r e
fault_moved r s fault.NotOneSite f i = f ∙ i
fault_moved r s (fault.Use p) f i = f ∙ i
fault_moved r s (fault.InCondition p) f i = f ∙ i
fault_moved r s (fault.CoinUse p) f i = f ∙ i
fault_moved r s (fault.KeyInArgument p) f i = f ∙ i
fault_moved r s fault.OutOfMemory f i = tt

module _ (M N : Matching) (same : M ≡ N) where
  pub key_fault : (e : MatchFault) → IsFault (key_refusal M) e → IsFault (first_refusal N) e
  key_fault e i =
      fault_moved (first_refusal N) (first_of (key_refusal M) (site_refusal M (sites_of M))) e (ap first_refusal (sym same) ∙ all_parts M) (fault_first (key_refusal M) (site_refusal M (sites_of M)) e i)

  module _ (ss : List Site) (k : key_refusal M ≡ None) (f : ss ≡ sites_of M) where
    parts : first_refusal N ≡ site_refusal M ss
    parts = ap first_refusal (sym same) ∙ (all_parts M ∙ (ap (λ r. first_of r (site_refusal M (sites_of M))) k ∙ ap (site_refusal M) (sym f)))

    pub site_fault : (e : MatchFault) → IsFault (site_refusal M ss) e → IsFault (first_refusal N) e
    site_fault e i = fault_moved (first_refusal N) (site_refusal M ss) e parts i

    pub no_refusal : site_refusal M ss ≡ None → first_refusal N ≡ None
    no_refusal n = parts ∙ n

-- a fault that is handed on
pub fault_through : {T : Type 0} (r : Result T MatchFault) (e : MatchFault) (o : Option Refusal) → IsErrAnd r (λ x. x ≡ e) → IsFault o e → IfErr r (IsFault o)
fault_through (Ok x) e o i f = absurd i
fault_through (Err x) e o i f = subst (IsFault o) (sym i) f
