-- A list of tokens, and the list that a `Tokens` stands for.
use Rattle.std.specs.Prelude.{◌≡◌, ℕ, ◌-◌, ◌<◌, ◌≤◌, List, [], ◌∷◌, ◌++◌, length, map, All, slice_index_or, slice_range, IsAscii}
use Rattle.std.specs.List.{insert}
use Rattle.cv_lex.specs.Lexis.{Token, end_token, IsToken}
use Rattle.cv_lex.specs.declared.token_list.Entry.{Entry}

-- the token at a place, and an end token past the last
abbrev pub token_at : List Token → ℕ → Token
token_at ts k = slice_index_or ts k (end_token 0)

-- tokens of the lexis, and behind them one end token
pub record AreTokens (ts : List Token) : Type 0 where
  pub front : List Token
  pub end : ℕ
  pub each : All (λ t. IsToken t.kind t.text) front
  pub all : ts ≡ front ++ end_token end ∷ []

-- the list with a token put before its last one
abbrev pub with_token : List Token → Token → List Token
with_token ts t = insert ts (length ts - 1) t

-- the token of an entry, whose text lies in the buffer
abbrev pub token_in : List ℕ → Entry → Token
token_in buffer e = record { kind = e.kind; text = slice_range buffer e.start e.end; offset = e.offset }

-- the tokens of the entries
abbrev pub tokens_in : List ℕ → List Entry → List Token
tokens_in buffer entries = map (token_in buffer) entries

-- what every `Tokens` keeps: texts are ASCII and within the buffer, tokens are of the lexis, and places fit 32 bits
pub record IsWhole (buffer : List ℕ) (entries : List Entry) : Type 0 where
  pub ascii : IsAscii buffer
  pub within : All (λ e. (e.start ≤ e.end) × (e.end ≤ length buffer)) entries
  pub each : All (λ t. IsToken t.kind t.text) (tokens_in buffer entries)
  pub few : length entries < 4294967295
