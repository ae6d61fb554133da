-- The script of a value, and of bytes.
use Rattle.std.proofs.Common.{◌≡◌, ℕ, ◌≤◌, List, length, refl, true, false, cond, arith}
use Rattle.std.proofs.lemmas.Str.{is_utf8-from_IsUtf8, IsUtf8-from_is_utf8}
use Rattle.std.specs.Prelude.{Some, None, Err, nat_lt, unwrap_or}
use Rattle.std.specs.Str.{IsUtf8, is_utf8}
use Rattle.serde_json.specs.Data.{Data, null}
use Rattle.serde_json.specs.Read.{read}
use Rattle.script_read.specs.declared.script.ScriptFault.TheVariants.{NotJson}
use Rattle.script_read.specs.Value.{script_of}
use Rattle.script_read.specs.Reads.{fault_of, fault_at, script_unless, script_in}

short : (bs : List ℕ) → length bs ≤ 4194304 → nat_lt 4194304 (length bs) ≡ false
short bs h = grind arith

-- a short text of a value is the value's script, or has its fault
pub value_in : (bs : List ℕ) (d : Data) → length bs ≤ 4194304 → IsUtf8 bs → read bs ≡ Some d → script_in bs ≡ script_unless (fault_of d) (script_of d)
value_in bs d n u r = rw (short bs n, is_utf8-from_IsUtf8 bs u, r) refl

-- a short text of no value is no JSON
pub no_value_in : (bs : List ℕ) → length bs ≤ 4194304 → (IsUtf8 bs → read bs ≡ None) → script_in bs ≡ Err NotJson
no_value_in bs n h =
    rw (short bs n)
    (elim (is_utf8 bs) as (λ b. (is_utf8 bs ≡ b) → script_unless (fault_at (cond b (read bs) None)) (script_of (unwrap_or (cond b (read bs) None) null)) ≡ Err NotJson) [
      | true ↦ λ e. rw (h (IsUtf8-from_is_utf8 bs e)) refl
      | false ↦ λ e. refl
    ] refl)
