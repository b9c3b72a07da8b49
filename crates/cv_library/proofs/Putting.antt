-- What is written for a token of a body.
use Rattle.std.proofs.Common.{◌≡◌, ◌≢◌, ℕ, ◌+◌, ◌-◌, ◌*◌, ◌/◌, ◌<◌, ◌≤◌, true, false, if◌then◌else◌, List, [], ◌∷◌, length, map, take, Option, Some, None, Result, Ok, Err, OnOk, refl, ap, sym, ◌∙◌, subst, arith}
use Rattle.std.specs.Prelude.{slice_get, slice_range}
use Rattle.std.proofs.lemmas.List.{get_or-take, length-take, map_push}
use Rattle.std.proofs.lemmas.Option.{slice_get-get_or, slice_get_past, slice_get_within}
use Rattle.std.specs.Str.{bytes_eq}
use Rattle.std.proofs.lemmas.Slice.Eq.{bytes_eq-Decides}
use Rattle.cv_lex.specs.declared.TokenKind.{TokenKind}
use Rattle.cv_lex.specs.declared.TokenKind.TheVariants.{Ident, Number, Symbol, End}
use Rattle.cv_lex.specs.Lexis.{IsToken, Token, end_token}
use Rattle.cv_lex.specs.View.{AreTokens, token_at, with_token}
use Rattle.cv_lex.proofs.Places.{inner_token}
use Rattle.cv_parse_tables.specs.terminals.Signs.{place_of}
use Rattle.cv_parse_tables.proofs.terminals.Naming.{only_place, place_of_new}
use Rattle.cv_library.specs.declared.uses.Use.{Use}
use Rattle.cv_library.specs.Words.{is_id}
use Rattle.cv_library.specs.Heads.{listed}
use Rattle.cv_library.specs.Expansions.{argument, at_offset, of_argument, put_for, renamed, replaced}
use Rattle.cv_library.specs.Written.{Adds}
use Rattle.cv_library.proofs.Adding.{adds_both, adds_none, adds_token}
use Rattle.cv_library.proofs.Lists.{alternate_at, length_alternate, range_none, range_push}

pub on_ok : {X E P Q : Type 0} (r : Result X E) → (P → Q) → OnOk r P → OnOk r Q
on_ok (Ok x) f p = f p
on_ok (Err e) f p = tt

pub text_some : (a b : List ℕ) → true ≡ bytes_eq a b → (b ≡ [] → ⊥) → a ≢ []
text_some a b e some = λ none. some (sym ((bytes_eq-Decides a b).0 (sym e)) ∙ none)

pub token_there : (ts : List Token) → AreTokens ts → (k : ℕ) (kind : TokenKind) (text : List ℕ) → k + 1 < length ts → kind ≡ (token_at ts k).kind → text ≡ (token_at ts k).text → IsToken kind text
token_there ts are k kind text h e f = subst (λ x. IsToken x text) (sym e) (subst (IsToken (token_at ts k).kind) (sym f) (inner_token ts are k h))

pub is_ident : (kind : TokenKind) (text : List ℕ) → true ≡ is_id kind text → kind ≡ Ident
is_ident Ident text e = refl
is_ident (Number v) text e = absurd (cc)
is_ident Symbol text e = absurd (cc)
is_ident End text e = absurd (cc)

pub ident_there : (ts : List Token) → AreTokens ts → (k : ℕ) (kind : TokenKind) (text : List ℕ) → k + 1 < length ts → kind ≡ (token_at ts k).kind → text ≡ (token_at ts k).text → true ≡ is_id kind text → IsToken Ident text
ident_there ts are k kind text h e f id = subst (λ x. IsToken x text) (is_ident kind text id) (token_there ts are k kind text h e f)

module _ (number : ℕ) (parameters : List (List ℕ)) (names : List Token) (t : Token) (kind : TokenKind) (text : List ℕ) (offset off : ℕ) (kind_is : kind ≡ t.kind) (text_is : text ≡ t.text) (offset_is : offset ≡ off) (old new : List Token) where
  pub token_kept : false ≡ is_id kind text → new ≡ with_token old (record { kind = kind; text = text; offset = offset }) → Adds old (at_offset off (replaced number parameters names t) ∷ []) new
  token_kept id e =
      let plain : replaced number parameters names t ≡ t = λ i. if sym (id ∙ (λ j. is_id (kind_is j) (text_is j))) i then of_argument number t (argument parameters names t.text) else t in
      adds_token old new (at_offset off (replaced number parameters names t))
      (e ∙ ap (with_token old) ((λ i. record { kind = kind_is i; text = text_is i; offset = offset_is i }) ∙ ap (at_offset off) (sym plain)))

  changed : true ≡ is_id kind text → (o : Option Token) → o ≡ argument parameters names text → replaced number parameters names t ≡ of_argument number t o
  changed id o e =
      (λ i. if sym (id ∙ (λ j. is_id (kind_is j) (text_is j))) i then of_argument number t (argument parameters names t.text) else t)
      ∙ ap (of_argument number t) (ap (argument parameters names) (sym text_is) ∙ sym e)

  pub token_named : true ≡ is_id kind text → (name : Token) (k : TokenKind) (x : List ℕ) → Some name ≡ argument parameters names text → k ≡ name.kind → x ≡ name.text → new ≡ with_token old (record { kind = k; text = x; offset = offset }) → Adds old (at_offset off (replaced number parameters names t) ∷ []) new
  token_named id name k x a k_is x_is e =
      adds_token old new (at_offset off (replaced number parameters names t))
      (e ∙ ap (with_token old) ((λ i. record { kind = k_is i; text = x_is i; offset = offset_is i }) ∙ ap (at_offset off) (sym (changed id (Some name) a))))

  pub token_renamed : true ≡ is_id kind text → None ≡ argument parameters names text → Adds old (record { kind = Ident; text = renamed number text; offset = offset } ∷ []) new → Adds old (at_offset off (replaced number parameters names t) ∷ []) new
  token_renamed id a adds =
      let same : record { kind = Ident; text = renamed number text; offset = offset } ≡ at_offset off (of_argument number t None) =
      (λ i. record { kind = (sym (is_ident kind text id) ∙ kind_is) i; text = renamed number (text_is i); offset = offset_is i })
      in
      subst (λ l. Adds old (l ∷ []) new) (same ∙ ap (at_offset off) (sym (changed id None a))) adds

module _ (ts : List Token) (parameters : List (List ℕ)) (word dot : ℕ) (text : List ℕ) where
  abbrev many : ℕ
  many = (dot - (word + 3)) / 2

  pub argument_none : ((n : ℕ) → slice_get parameters n ≢ Some text) → None ≡ argument parameters (listed ts word dot) text
  argument_none h =
      sym (slice_get_past (take (length parameters) (listed ts word dot)) (place_of parameters text) (omega (arith, length-take (length parameters) (listed ts word dot), place_of_new parameters text h)))

  module _ (i : ℕ) (here : slice_get parameters i ≡ Some text) (only : (p : ℕ) → slice_get parameters p ≡ Some text → i ≡ p) where
    pub argument_past : many ≤ i → None ≡ argument parameters (listed ts word dot) text
    argument_past h =
        sym (slice_get_past (take (length parameters) (listed ts word dot)) (place_of parameters text)
        (omega (arith, length-take (length parameters) (listed ts word dot), length_alternate ts (word + 3) many, only_place parameters text i here only)))

    pub argument_at : i < many → Some (token_at ts (word + 3 + 2 * i)) ≡ argument parameters (listed ts word dot) text
    argument_at h =
        let within = slice_get_within parameters i text here in
        let long : i < length (take (length parameters) (listed ts word dot)) = omega (arith, length-take (length parameters) (listed ts word dot), length_alternate ts (word + 3) many) in
        sym (
        ap (slice_get (take (length parameters) (listed ts word dot))) (sym (only_place parameters text i here only))
        ∙ slice_get-get_or (take (length parameters) (listed ts word dot)) i (end_token 0) long
        ∙ ap Some (get_or-take (length parameters) (listed ts word dot) i (end_token 0) within ∙ alternate_at ts (word + 3) many i h)
        )

-- bodies, token by token

-- the tokens of a body between two are written behind the old ones
pub record IsBodyPut (ts : List Token) (number : ℕ) (u : Use) (parameters : List (List ℕ)) (body old : List Token) (from k : ℕ) (new : List Token) : Type 0 where
  pub adds : Adds old (map (put_for ts number u parameters) (slice_range body from k)) new
  pub len : length new ≡ length old + (k - from)

module _ (ts : List Token) (number : ℕ) (u : Use) (parameters : List (List ℕ)) (body old : List Token) (from : ℕ) where
  pub body_put_none : IsBodyPut ts number u parameters body old from from old
  body_put_none = record {
    adds = subst (λ l. Adds old (map (put_for ts number u parameters) l) old) (sym (range_none body from)) (adds_none old);
    len = omega arith;
  }

  pub body_put_more : (k : ℕ) (new more : List Token) → IsBodyPut ts number u parameters body old from k new → from ≤ k → k < length body → Adds new (put_for ts number u parameters (token_at body k) ∷ []) more → length more ≡ length new + 1 → IsBodyPut ts number u parameters body old from (k + 1) more
  body_put_more k new more put h l adds len = record {
    adds =
        subst (λ l. Adds old l more)
        (sym (ap (map (put_for ts number u parameters)) (range_push body from k h l) ∙ map_push (put_for ts number u parameters) (slice_range body from k) (token_at body k)))
        (adds_both old new more (map (put_for ts number u parameters) (slice_range body from k)) (put_for ts number u parameters (token_at body k) ∷ []) put.adds adds);
    len = omega (arith, len, put.len);
  }
