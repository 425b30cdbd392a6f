-- What reading to the end takes, and what writing a whole text adds.
use Rattle.std.specs.Prelude.{◌≡◌, ℕ, ◌<◌, ◌≤◌, Bool, true, false, List, [], ◌++◌, length, take, Result, Ok, Err}
use Rattle.std.specs.Global.{Vec}
use Rattle.slate_streams.specs.declared.whole.InputFault.{InputFault}
use Rattle.slate_streams.specs.declared.whole.InputFault.TheVariants.{Failed, TooLong, NoMemory}

-- What reading to the end takes of the bytes that are left. Ok answers all of them. TooLong says that more than the
-- limit were taken; at another fault at most the limit were.
abbrev pub ReadsWhole : ℕ → Result (Vec ℕ) InputFault → List ℕ → List ℕ → Type 0
ReadsWhole limit (Ok bytes) left left' = (left ≡ bytes.items) × (left' ≡ [])
ReadsWhole limit (Err TooLong) left left' = (taken : List ℕ) × (left ≡ taken ++ left') × (limit < length taken)
ReadsWhole limit (Err Failed) left left' = (taken : List ℕ) × (left ≡ taken ++ left') × (length taken ≤ limit)
ReadsWhole limit (Err NoMemory) left left' = (taken : List ℕ) × (left ≡ taken ++ left') × (length taken ≤ limit)

-- what writing a text adds to the bytes that are written: all of it, or at a failure a part that lacks its end
abbrev pub WritesWhole : Bool → List ℕ → List ℕ → List ℕ → Type 0
WritesWhole true text written written' = written' ≡ written ++ text
WritesWhole false text written written' = (count : ℕ) × (count < length text) × (written' ≡ written ++ take count text)
