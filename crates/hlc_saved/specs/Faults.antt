-- The text of each fault, and its number.
use Rattle.std.specs.Prelude.{ℕ, List, codes}
use Rattle.hlc_wire.specs.Faults.{fault_text}
use Rattle.hlc_saved.specs.declared.fault.{ResumeError.ResumeError, SaverError.SaverError}
use Rattle.hlc_saved.specs.declared.fault.ResumeError.TheVariants.{NoMemory, Bytes, Parts}
use Rattle.hlc_saved.specs.declared.fault.SaverError.TheVariants.{NoMemory as ShortOfMemory, Changed}
use Rattle.hlc_checkpoint.specs.RestoreFaults as reasons

abbrev pub resume_text : ResumeError → List ℕ
resume_text NoMemory = codes "out of memory"
resume_text (Bytes fault) = fault_text fault
resume_text (Parts fault) = reasons.fault_text fault

abbrev pub saver_text : SaverError → List ℕ
saver_text ShortOfMemory = codes "out of memory"
saver_text Changed = codes "the store changed since the saving began"

abbrev pub saver_code : SaverError → ℕ
saver_code ShortOfMemory = 15
saver_code Changed = 112
