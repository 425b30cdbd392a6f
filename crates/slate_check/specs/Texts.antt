-- What is printed of a store that was looked at.
use Rattle.std.specs.Prelude.{ℕ, List, ◌++◌, codes, decimal}
use Rattle.slate_store.specs.declared.objects.TableId.{TableId}
use Rattle.slate_check.specs.declared.faults.CheckpointFault.{CheckpointFault}
use Rattle.slate_check.specs.declared.faults.CheckpointFault.TheVariants as of_checkpoint
use Rattle.slate_check.specs.declared.faults.ManifestFault.{ManifestFault}
use Rattle.slate_check.specs.declared.faults.ManifestFault.TheVariants as of_manifest
use Rattle.slate_check.specs.declared.faults.Soundness.{Soundness}
use Rattle.slate_check.specs.declared.faults.Soundness.TheVariants.{Sound, Unsound}
use Rattle.slate_check.specs.declared.faults.SoundnessFault.{SoundnessFault}
use Rattle.slate_check.specs.declared.faults.SoundnessFault.TheVariants as of_store

-- the id of a table: its epoch and its index, with `-` between
abbrev pub table_id_text : TableId → List ℕ
table_id_text id = decimal id.epoch ++ (codes "-" ++ decimal id.index)

-- what a manifest lacks, behind its name
abbrev pub lack_text : ManifestFault → List ℕ
lack_text (of_manifest.TableMissing id) = codes "names table " ++ (table_id_text id ++ codes ", which isn't stored")
lack_text (of_manifest.TableEmpty id) = codes "names table " ++ (table_id_text id ++ codes ", which has no batch")
lack_text of_manifest.NextLog = codes "has a next log file at or below its replay mark"
lack_text (of_manifest.LogMissing id) = codes "needs log file " ++ (decimal id ++ codes ", which isn't stored")
lack_text of_manifest.TablesEnd = codes "has tables that don't end at its last number"

-- why a checkpoint isn't pinned, behind its name
abbrev pub pin_text : CheckpointFault → List ℕ
pin_text of_checkpoint.Id = codes "has the id of another manifest"
pin_text of_checkpoint.Above = codes "keeps a manifest above the latest one"
pin_text of_checkpoint.Missing = codes "keeps a manifest that isn't stored"
pin_text (of_checkpoint.Manifest fault) = codes "keeps a manifest that " ++ lack_text fault
pin_text of_checkpoint.Content = codes "keeps batches that don't begin the content"

abbrev pub fault_text : SoundnessFault → List ℕ
fault_text of_store.ManifestIds = codes "the ids of manifests don't rise"
fault_text of_store.LogIds = codes "the ids of log files don't rise"
fault_text of_store.TableIds = codes "the ids of tables don't rise"
fault_text of_store.NoManifest = codes "no manifest is stored"
fault_text (of_store.TableEpoch id) = codes "table " ++ (table_id_text id ++ codes " has an epoch above the latest manifest's")
fault_text (of_store.LogGap after) = codes "a gap in the log files after " ++ decimal after
fault_text (of_store.Manifest id fault) = codes "manifest " ++ (decimal id ++ (codes " " ++ lack_text fault))
fault_text (of_store.Numbers number) = codes "batch " ++ (decimal number ++ codes " doesn't follow the one before it")
fault_text (of_store.CheckpointTwice id) = codes "two checkpoints keep manifest " ++ decimal id
fault_text (of_store.Checkpoint id fault) = codes "the checkpoint of manifest " ++ (decimal id ++ (codes " " ++ pin_text fault))

-- whether a store is sound, as a line
abbrev pub soundness_text : Soundness → List ℕ
soundness_text (Sound number) = codes "sound at " ++ (decimal number ++ codes "\n")
soundness_text (Unsound fault) = codes "unsound: " ++ (fault_text fault ++ codes "\n")
