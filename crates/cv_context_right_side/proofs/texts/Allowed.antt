-- What the conditions of the step say of a game.
use Rattle.std.proofs.Common.{◌≡◌, ℕ, Bool, true, false, cond, Option, Some, None, refl}
use Rattle.std.proofs.lemmas.Bool.{and_parts, both_ways}
use Rattle.std.specs.Prelude.{List}
use Rattle.cv_scope_rules.specs.declared.position.Position.TheVariants.{Anywhere}
use Rattle.cv_syntax_trees.specs.sites.Sites.{first_of}
use Rattle.cv_scene.specs.Instances.{Matching}
use Rattle.cv_scene.specs.Refusals.{CoinUse, InCondition, KeyInArgument, NotOneSite, Refusal, Use, at_place, first_argument_use, first_coin_use, first_in_condition, first_refusal, first_use, has_key, is_of_type, new_of}
use Rattle.cv_scene.specs.Sites.{sites_of}
use Rattle.cv_context_left_side.proofs.refusals.Whole.{neither, at_none}

pub record IsAllowed (M : Matching) : Type 0 where
  pub definition : ℕ × List (ℕ × ℕ)
  pub key : new_of M.scene.game M.key ≡ Some definition
  pub coins : first_coin_use M (sites_of M) ≡ None
  pub arguments : first_argument_use M (sites_of M) ≡ None

module _ (M : Matching) where
  abbrev rest : Option Refusal
  rest =
      first_of (at_place Use (first_use M Anywhere 0 M.scene.game))
      (first_of (at_place InCondition (first_in_condition M.key Anywhere 0 M.scene.game))
      (first_of (at_place CoinUse (first_coin_use M (sites_of M))) (at_place KeyInArgument (first_argument_use M (sites_of M)))))

  with_key : first_coin_use M (sites_of M) ≡ None → first_argument_use M (sites_of M) ≡ None → (o : Option (ℕ × List (ℕ × ℕ))) → new_of M.scene.game M.key ≡ o → is_of_type M.group.key.1 o ≡ true → IsAllowed M
  with_key c a None i e = absurd (both_ways false refl e)
  with_key c a (Some d) i e = record { definition = d; key = i; coins = c; arguments = a }

  pub allowed : first_refusal M ≡ None → IsAllowed M
  allowed e = go (has_key M) refl e
    where
      go : (b : Bool) → has_key M ≡ b → cond b rest (Some NotOneSite) ≡ None → IsAllowed M
      go false k f = absurd (cc)
      go true k f =
          let a = neither (at_place Use (first_use M Anywhere 0 M.scene.game)) _ f in
          let b = neither (at_place InCondition (first_in_condition M.key Anywhere 0 M.scene.game)) _ a.1 in
          let c = neither (at_place CoinUse (first_coin_use M (sites_of M))) _ b.1 in
          with_key (at_none CoinUse _ c.0) (at_none KeyInArgument _ c.1) (new_of M.scene.game M.key) refl (and_parts (is_of_type M.group.key.1 (new_of M.scene.game M.key)) _ k).0
