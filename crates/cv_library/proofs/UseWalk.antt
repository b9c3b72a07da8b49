-- The uses in a file, token by token.
use Rattle.std.proofs.Common.{◌≡◌, ℕ, zero, suc, ◌+◌, ◌-◌, ◌<◌, ◌≤◌, List, [], ◌∷◌, ◌++◌, length, drop, Some, None, refl, ap, sym, ◌∙◌, subst, arith}
use Rattle.std.proofs.lemmas.List.{append_assoc, append-nil, at_drop_all, drop-drop, drop_more}
use Rattle.cv_lex.specs.Lexis.{Token, end_token}
use Rattle.cv_lex.specs.View.{token_at}
use Rattle.cv_library.specs.declared.uses.Looking.{Looking}
use Rattle.cv_library.specs.declared.uses.Looking.TheVariants.{Here}
use Rattle.cv_library.specs.declared.uses.Use.{Use}
use Rattle.cv_library.specs.Places.{AreInOrder}
use Rattle.cv_library.specs.Uses.{dot_where, looking_behind, then_uses, uses_from, uses_of}

-- all uses

uses_more : (ts : List Token) (looking : Looking) (at : ℕ) → at < length ts → uses_from ts 0 looking at (drop at ts) ≡ then_uses (λ n l. uses_from ts n l (at + 1) (drop (at + 1) ts)) at (looking_behind looking (token_at ts at).text) (dot_where looking ts at)
unfolding uses_from
uses_more ts looking at h = ap (uses_from ts 0 looking at) (drop_more ts at (end_token 0) h)

uses_skipped : (ts : List Token) (n : ℕ) (looking : Looking) (at : ℕ) (rest : List Token) → uses_from ts n looking at rest ≡ uses_from ts 0 looking (at + n) (drop n rest)
unfolding uses_from
uses_skipped ts zero looking at rest = let same : at ≡ at + 0 = omega arith in ap (λ k. uses_from ts 0 looking k rest) same
uses_skipped ts (suc n) looking at [] = refl
uses_skipped ts (suc n) looking at (t ∷ rest) =
    let same : at + 1 + n ≡ at + suc n = omega arith in
    uses_skipped ts n looking (at + 1) rest ∙ ap (λ k. uses_from ts 0 looking k (drop n rest)) same

-- uses behind a token stand behind an earlier one too
pub order_earlier : (ts : List Token) (from to : ℕ) (us : List Use) → from ≤ to → AreInOrder ts to us → AreInOrder ts from us
order_earlier ts from to [] h o = tt
order_earlier ts from to (u ∷ us) h o = (record { word = omega (arith, o.0.word); head = o.0.head; last = o.0.last }, o.1)

-- these uses stand before a token
pub record AreUsed (ts : List Token) (found : List Use) (looking : Looking) (at : ℕ) : Type 0 where
  pub all : found ++ uses_from ts 0 looking at (drop at ts) ≡ uses_of ts
  pub order : (more : List Use) → AreInOrder ts at more → AreInOrder ts 0 (found ++ more)

module _ (ts : List Token) (found : List Use) (looking : Looking) (at : ℕ) (are : AreUsed ts found looking at) where
  pub used_push : (dot : ℕ) (more : List Use) → at < length ts → Some dot ≡ dot_where looking ts at → at + 3 < dot → dot + 1 < length ts → more ≡ found ++ record { word = at; dot = dot } ∷ [] → AreUsed ts more Here (dot + 1)
  used_push dot more below e head last pushed =
      let u : Use = record { word = at; dot = dot } in
      let far : at + 1 + (dot - at) ≡ dot + 1 = omega arith in
      let rest : uses_from ts (dot - at) Here (at + 1) (drop (at + 1) ts) ≡ uses_from ts 0 Here (dot + 1) (drop (dot + 1) ts) =
      uses_skipped ts (dot - at) Here (at + 1) (drop (at + 1) ts)
      ∙ ap (uses_from ts 0 Here (at + 1 + (dot - at))) (drop-drop (dot - at) (at + 1) ts)
      ∙ ap (λ k. uses_from ts 0 Here k (drop k ts)) far
      in
      let here : uses_from ts 0 looking at (drop at ts) ≡ u ∷ uses_from ts 0 Here (dot + 1) (drop (dot + 1) ts) =
      uses_more ts looking at below
      ∙ ap (then_uses (λ n l. uses_from ts n l (at + 1) (drop (at + 1) ts)) at (looking_behind looking (token_at ts at).text)) (sym e)
      ∙ ap (λ us. u ∷ us) rest
      in
      record {
        all = ap (λ f. f ++ uses_from ts 0 Here (dot + 1) (drop (dot + 1) ts)) pushed ∙ append_assoc found (u ∷ []) (uses_from ts 0 Here (dot + 1) (drop (dot + 1) ts)) ∙ ap (λ us. found ++ us) (sym here) ∙ are.all;
        order = λ us o. subst (AreInOrder ts 0) (sym (ap (λ f. f ++ us) pushed ∙ append_assoc found (u ∷ []) us)) (are.order (u ∷ us) (record { word = omega arith; head = head; last = last }, o));
      }

  pub used_on : (text : List ℕ) (next : Looking) → at < length ts → None ≡ dot_where looking ts at → text ≡ (token_at ts at).text → next ≡ looking_behind looking text → AreUsed ts found next (at + 1)
  used_on text next below e text_is next_is = record {
    all =
        ap (λ l. found ++ uses_from ts 0 l (at + 1) (drop (at + 1) ts)) (next_is ∙ ap (looking_behind looking) text_is)
        ∙ ap (λ us. found ++ us) (sym (uses_more ts looking at below ∙ ap (then_uses (λ n l. uses_from ts n l (at + 1) (drop (at + 1) ts)) at (looking_behind looking (token_at ts at).text)) (sym e)))
        ∙ are.all;
    order = λ us o. are.order us (order_earlier ts at (at + 1) us (omega arith) o);
  }

  pub used_all : length ts ≤ at → (uses_of ts ≡ found) × AreInOrder ts 0 found
  unfolding uses_from
  used_all h = (
    sym are.all ∙ ap (λ us. found ++ us) (at_drop_all (uses_from ts 0 looking at) ts at h) ∙ append-nil found,
    subst (AreInOrder ts 0) (append-nil found) (are.order [] tt),
  )
