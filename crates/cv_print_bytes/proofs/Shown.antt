-- The signs of a text, token by token from its end.
use Rattle.std.proofs.Common.{◌≡◌, ℕ, suc, ◌+◌, Bool, true, false, ◌&&◌, if◌then◌else◌, List, [], ◌∷◌, ◌++◌, length, drop, Ok, refl, ap, sym, ◌∙◌, subst, codes, inl, inr, drop_at}
use Rattle.std.proofs.lemmas.Bool.{cases_eq, ne_eqb}
use Rattle.std.proofs.lemmas.List.{take_at}
use Rattle.cv_lex.specs.declared.TokenKind.{TokenKind}
use Rattle.cv_lex.specs.declared.scan.Piece.TheVariants.{Nothing, Between, Lexeme, ForeignByte}
use Rattle.cv_lex.specs.Lexis.{Token, Lexed, ends, between, token, has_front, piece, end_token}
use Rattle.cv_parse_notation.specs.declared.sign.Sign.{Sign}
use Rattle.cv_parse_notation.specs.declared.sign.Sign.TheVariants as sign
use Rattle.cv_parse_tables.specs.terminals.Signs.{one_find, join, go_on, step_before, first_text, signs_from}
use Rattle.cv_print_bytes.specs.terminals.Signs.{numbered}

-- at any offset, and however many words are counted before, the text has these signs, and no name is new
pub record Shows (names : List (List ℕ)) (text : List ℕ) (ss : List Sign) : Type 0 where
  pub tokens : ℕ → List Token
  pub lexed : (k : ℕ) → Lexed k text (Ok (tokens k))
  pub signed : (k : ℕ) (counts : _) → signs_from names counts (tokens k) ≡ record { signs = numbered counts.finds ss; names = names }

pub shows_end : (names : List (List ℕ)) → Shows names [] []
unfolding signs_from numbered
shows_end names = record { tokens = λ k. end_token k ∷ []; lexed = λ k. ends refl; signed = λ k counts. refl }

pub shows_blank : (names : List (List ℕ)) (b : ℕ) (text : List ℕ) (ss : List Sign) → piece (b ∷ text) ≡ Between 1 → Shows names text ss → Shows names (b ∷ text) ss
shows_blank names b text ss e w = record {
  tokens = λ k. w.tokens (k + 1);
  lexed = λ k. between {k = k} {bs = b ∷ text} {r = Ok (w.tokens (k + 1))} 1 e (w.lexed (k + 1));
  signed = λ k counts. w.signed (k + 1) counts;
}

-- the sign that a token has, where so many words are counted before; the word `find` is one more
abbrev pub given : ℕ → Sign → Sign
given finds (sign.Find k) = sign.Find (suc finds)
given finds s = s

abbrev pub is_find : Sign → Bool
is_find (sign.Find k) = true
is_find s = false

pub record Means (names : List (List ℕ)) (kind : TokenKind) (w : List ℕ) (s : Sign) : Type 0 where
  pub step : (counts : _) (next : List ℕ) → step_before names counts kind w next ≡ record { signs = given counts.finds s ∷ []; names = names; counts = if is_find s then one_find counts else counts }

numbered_first : (s : Sign) (counts : _) (ss : List Sign) → numbered counts.finds (s ∷ ss) ≡ given counts.finds s ∷ numbered (if is_find s then one_find counts else counts).finds ss
unfolding numbered
numbered_first (sign.Find k) counts ss = refl
numbered_first s counts ss = refl

abbrev token_of : TokenKind → List ℕ → ℕ → Token
token_of kind w k = record { kind = kind; text = w; offset = k }

signed_first : (names : List (List ℕ)) (kind : TokenKind) (w : List ℕ) (s : Sign) (k : ℕ) (ts : List Token) (counts : _) (ss : List Sign) → Means names kind w s → ((c : _) → signs_from names c ts ≡ record { signs = numbered c.finds ss; names = names }) → signs_from names counts (token_of kind w k ∷ ts) ≡ record { signs = numbered counts.finds (s ∷ ss); names = names }
unfolding signs_from
signed_first names kind w s k ts counts ss m later =
    ap (go_on (λ n c. signs_from n c ts)) (m.step counts (first_text ts)) ∙ ap (join (given counts.finds s ∷ [])) (later (if is_find s then one_find counts else counts))
    ∙ ap (λ l. record { signs = l; names = names }) (sym (numbered_first s counts ss))

-- one token in front
pub shows_token : (names : List (List ℕ)) (kind : TokenKind) (w text : List ℕ) (s : Sign) (ss : List Sign) → piece (w ++ text) ≡ Lexeme kind (length w) → Means names kind w s → Shows names text ss → Shows names (w ++ text) (s ∷ ss)
shows_token names kind w text s ss e m v = record {
  tokens = λ k. token_of kind w k ∷ v.tokens (k + length w);
  lexed = λ k.
      let ts = v.tokens (k + length w) in
      let rest : Lexed (k + length w) (drop (length w) (w ++ text)) (Ok ts) = subst (λ bs. Lexed (k + length w) bs (Ok ts)) (sym (drop_at w text (length w) refl)) (v.lexed (k + length w)) in
      subst (λ x. Lexed k (w ++ text) (Ok (token_of kind x k ∷ ts))) (take_at w text (length w) refl) (token {k = k} {bs = w ++ text} {ts = ts} kind (length w) e rest);
  signed = λ k counts. signed_first names kind w s k (v.tokens (k + length w)) counts ss m (v.signed (k + length w));
}

-- no such text begins with '*'

pub star_is_none : (k : ℕ) (bs : List ℕ) (ts : List Token) → Lexed k (42 ∷ bs) (Ok ts) → ⊥
star_is_none k bs ts (ends e) = let no : ForeignByte ≡ Nothing = e in cc
star_is_none k bs ts (between n e d) = let no : ForeignByte ≡ Between n = e in cc
star_is_none k bs ts (token kind n e d) = let no : ForeignByte ≡ Lexeme kind n = e in cc

pub no_star : (names : List (List ℕ)) (text : List ℕ) (ss : List Sign) → Shows names text ss → has_front (codes "*") text ≡ false
no_star names [] ss w = refl
no_star names (b ∷ bs) ss w =
    elim (cases_eq b 42) [
      | inl e ↦ absurd (star_is_none 0 bs (w.tokens 0) (subst (λ x. Lexed 0 (x ∷ bs) (Ok (w.tokens 0))) e (w.lexed 0)))
      | inr n ↦ ap (λ x. x && true) (ne_eqb b 42 n)
    ]
