-- What is advised, by the first refusal.
use Rattle.std.proofs.Common.{◌≡◌, ℕ, Bool, true, false, cond, ◌&&◌, nat_lt, List, [], ◌∷◌, ◌++◌, length, map, Option, Some, None, refl}
use Rattle.std.proofs.lemmas.Bool.{and_parts, both_ways}
use Rattle.cv_syntax_trees.specs.declared.head.Head.{Head}
use Rattle.cv_syntax_trees.specs.declared.head.Head.TheVariants.{New}
use Rattle.cv_syntax_trees.specs.sites.Sites.{first_of}
use Rattle.cv_scope_rules.specs.declared.position.Position.TheVariants.{Anywhere}
use Rattle.cv_scene.specs.Instances.{Matching}
use Rattle.cv_scene.specs.Refusals.{CoinUse, InCondition, KeyInArgument, NotOneSite, Use, at_place, definitions_in, first_argument_use, first_coin_use, first_in_condition, first_refusal, first_use, has_key, is_of_type, only_new}
use Rattle.cv_scene.specs.Sites.{sites_of}
use Rattle.cv_settling_rules.specs.Candidates.{when}
use Rattle.cv_settling_rules.specs.Variables.{reads_of}
use Rattle.cv_strategy_rules.specs.Moves.{ArrayRename, Move, Unlet, advised_by, has_several_keys}
use Rattle.cv_strategy_moves.specs.Demands.{advice, lets_at}

abbrev pub Definitions : Type 0
Definitions = List (Head × List (ℕ × ℕ))

-- a key with one definition hasn't several

pub of_two : (T : ℕ) (h : Head) (rs : List (ℕ × ℕ)) (d : Head × List (ℕ × ℕ)) (ds : Definitions) → is_of_type T (only_new ((h, rs) ∷ d ∷ ds)) ≡ false
of_two T (New x U) rs d ds = refl
of_two T h rs d ds = refl

one_alone : (T : ℕ) (ds : Definitions) → is_of_type T (only_new ds) ≡ true → nat_lt 1 (length ds) ≡ false
one_alone T [] e = refl
one_alone T (d ∷ []) e = refl
one_alone T (d ∷ c ∷ ds) e = absurd (both_ways _ (of_two T d.0 d.1 c ds) e)

not_both : (few choices read : Bool) → few ≡ false → ((few && choices) && read) ≡ false
not_both few choices read e = cc

not_several : (M : Matching) → has_key M ≡ true → has_several_keys M ≡ false
not_several M e =
    let k : is_of_type M.group.key.1 (only_new (definitions_in M.key [] M.scene.game)) ≡ true = (and_parts _ _ e).0 in
    not_both (nat_lt 1 (length (definitions_in M.key [] M.scene.game))) _ (nat_lt 0 (reads_of M.scene.game M.key)) (one_alone M.group.key.1 (definitions_in M.key [] M.scene.game) k)

no_more : (b : Bool) (m : Move) → when b m ≡ when b m ++ []
no_more true m = refl
no_more false m = refl

by_refusal : (M : Matching) (key : Bool) (u c k a : Option ℕ) → has_key M ≡ key
    → advised_by M (cond key (first_of (at_place Use u) (first_of (at_place InCondition c) (first_of (at_place CoinUse k) (at_place KeyInArgument a)))) (Some NotOneSite))
    ≡ when (has_several_keys M) (ArrayRename M.key) ++ map Unlet (cond key (lets_at M.scene.game u) [])
by_refusal M false u c k a e = no_more (has_several_keys M) (ArrayRename M.key)
by_refusal M true u c k a e = go u c k a (has_several_keys M) (not_several M e)
  where
    go : (u c k a : Option ℕ) (b : Bool) → b ≡ false
        → advised_by M (first_of (at_place Use u) (first_of (at_place InCondition c) (first_of (at_place CoinUse k) (at_place KeyInArgument a))))
        ≡ when b (ArrayRename M.key) ++ map Unlet (lets_at M.scene.game u)
    go u c k a true f = absurd (both_ways true f refl)
    go (Some p) c k a false f = refl
    go None (Some p) k a false f = refl
    go None None (Some p) a false f = refl
    go None None None (Some p) false f = refl
    go None None None None false f = refl

pub advised : (M : Matching) → advised_by M (first_refusal M) ≡ advice M
advised M =
    by_refusal M (has_key M) (first_use M Anywhere 0 M.scene.game) (first_in_condition M.key Anywhere 0 M.scene.game) (first_coin_use M (sites_of M)) (first_argument_use M (sites_of M)) refl
